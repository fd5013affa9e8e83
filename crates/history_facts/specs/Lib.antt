pub mod Generations
pub mod Origins
pub mod Openings
pub mod Walks
