mod TextCuts
pub mod TextLaws
