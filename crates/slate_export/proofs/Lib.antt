pub mod LeftTables
