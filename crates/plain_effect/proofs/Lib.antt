pub mod CallerLaws
pub mod Places
pub mod QuietLaws
