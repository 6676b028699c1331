pub mod Device
pub mod Faults
pub mod MemSink
pub mod MemStore
pub mod Outside
pub mod RealStore
