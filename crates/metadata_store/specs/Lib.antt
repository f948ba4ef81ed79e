pub mod Code
pub mod MergePatch
pub mod Store
