pub mod Requests
pub mod Reads
pub mod Meaning
pub mod RoundTrip
