-- Statuses of a program that makes no run over its folder.
--     folder_status e      the status that it ends with by the error
use Rattle.std.specs.Prelude.{ℕ}
use Rattle.slate_command.specs.declared.folder.FolderError.{FolderError}
use Rattle.slate_command.specs.declared.folder.FolderError.TheVariants as errors

abbrev pub folder_status : FolderError → ℕ
folder_status errors.NotAFolder = 2
folder_status errors.InUse = 2
folder_status errors.HasTables = 2
folder_status errors.Failed = 7
folder_status errors.OutOfMemory = 20
