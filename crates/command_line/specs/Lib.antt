pub mod Commands
pub mod MachineId
pub mod Numbers
pub mod Options
pub mod Programs
pub mod Said
