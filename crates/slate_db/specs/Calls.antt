-- What calls ensure, where that is longer than a line: a record for each call, whose fields are the
-- facts.
pub mod Common
pub mod Open
pub mod Operate
pub mod Commit
pub mod Write
pub mod Flush
pub mod Get
pub mod Scan
pub mod Step
pub mod Find
pub mod Store
pub mod Put
