pub mod FirstWord
pub mod FolderStatus
