pub mod Lists
pub mod SharedRuns
pub mod Handed
mod HandedRows
pub mod BeginsLaws
mod RangeRows
mod RangeShares
pub mod UnderKeys
mod ApartIds
mod Journals
mod Split
mod Short
mod Folds
mod AllRows
mod Kept
pub mod Operands
pub mod Asks
pub mod Keeps
mod Quiet
pub mod RunsOf
pub mod Logs
pub mod Adding
mod LogViews
mod MemoryLayers
pub mod Wholes
mod Calls
mod WholeFlushes
mod Writes
mod Puts
mod Versions
mod MemoryRows
mod FoldFits
mod FlushRows
mod Prefixes
mod Cuts
pub mod Runs
mod StandingRuns
mod TouchedSegments
mod FlushedKeys
pub mod OneSegment
mod SegmentRuns
mod Built
mod Flushes
mod Installs
pub mod Seen
mod Newest
mod Walks
mod Bases
mod NoMerges
mod Rises
pub mod Gets
pub mod Answered
pub mod Checks
pub mod PathsApart
mod Puttings
mod RunSoFar
pub mod Filtered
mod HeldOn
pub mod Settled
pub mod Tables
mod UnderOwn
pub mod RunReads
mod Blocks
mod Damaged
mod Causes
pub mod Shown
mod Sums
mod Filters
mod FlushLoads
mod Loads
mod Steps
mod Notes
mod Passing
mod Foldings
mod ScanStates
pub mod ScanNotes
mod Refused
mod Plain
pub mod Tests
pub mod Segmenting
pub mod Recording
pub mod Managing
pub mod TakenBack
pub mod CommitSteps
pub mod OwnRows
pub mod Changes
pub mod CommitWholes
mod Commits
mod Committing
pub mod Noting
pub mod StepExits
pub mod WriteVerdicts
mod Writing
pub mod WriteFacts
pub mod CommitFacts
mod Unasked
mod Verdicts
pub mod Vouches
mod ByKeys
mod KeyRows
mod ScanFolds
mod Scans
mod ScanSources
mod ScanLists
mod ScanRows
pub mod ScanWorlds
mod TableChecks
mod ScanTables
mod SourceLists
mod ScanReaders
mod RangeFilters
mod ScanFilters
mod ScanOpenings
mod ScanRefusals
mod ScanBringings
mod ScanRises
mod OpenNotes
pub mod Opened
pub mod OpenIds
pub mod Readers
pub mod ScanWithin
mod ScanMerges
pub mod RowDamage
mod Serial
mod ScansLeft
mod Places
mod Behind
mod KeyBlocks
pub mod Needs
pub mod Finds
mod Numbered
mod PreparedOf
pub mod Flights
pub mod Aloft
mod ChangedReads
