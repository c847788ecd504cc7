-- emitter
pub mod InnerEmit
