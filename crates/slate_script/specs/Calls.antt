-- What functions ensure, where that is longer than a line: a record, whose fields are the facts.
pub mod Line
pub mod Run
pub mod Main
