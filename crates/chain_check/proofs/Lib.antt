pub mod CheckService
