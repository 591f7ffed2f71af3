pub mod ChainService
