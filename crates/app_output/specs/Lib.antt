pub mod Ended
pub mod Headline
pub mod NextLine
pub mod NoteText
pub mod Output
pub mod RunText
pub mod Status
pub mod Still
