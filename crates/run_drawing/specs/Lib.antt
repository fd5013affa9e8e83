pub mod Shapes
pub mod Scenes
pub mod Style
pub mod Drawing
