pub mod MeteredCalls
