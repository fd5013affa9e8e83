pub mod MemoryStreams
