pub mod WalkLaws
pub mod IdleLaws
pub mod TableLaws
pub mod CompileLaws
pub mod KnownLaws
pub mod LightenedLaws
pub mod EmptiedLaws
pub mod QuietLaws
