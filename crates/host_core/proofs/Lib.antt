pub mod Allowed
pub mod Buffers
pub mod Numbers
pub mod Results
pub mod Tenants
pub mod Heads
pub mod Faults
pub mod Stands
pub mod Serving
pub mod ServedAlone
mod BatchCalls
mod Replays
mod Ends
mod Histories
mod Installs
