pub mod Bears
pub mod Found
pub mod Left
pub mod Printed
