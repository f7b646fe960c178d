use Rattle.std.specs.Fmt.{digits}
use Rattle.std.proofs.Common.{refl}
use Rattle.slate_language.proofs.LongRows.{long_keys}
use Rattle.slate_language.proofs.rows.worked_rows.Goals as goal

pub returns-clause-short_scripts : goal.returns-clause-short_scripts
unfolding digits
returns-clause-short_scripts c = (refl, refl, refl)

pub returns-clause-older_reader : goal.returns-clause-older_reader
unfolding digits
returns-clause-older_reader c = refl

pub returns-clause-conflict_closes : goal.returns-clause-conflict_closes
unfolding digits
returns-clause-conflict_closes c = refl

pub returns-clause-empty_scan_is_a_read : goal.returns-clause-empty_scan_is_a_read
unfolding digits
returns-clause-empty_scan_is_a_read c = refl

pub returns-clause-unmarked_write : goal.returns-clause-unmarked_write
unfolding digits
returns-clause-unmarked_write c = refl

pub returns-clause-marked_key : goal.returns-clause-marked_key
unfolding digits
returns-clause-marked_key c = refl

pub returns-clause-one_ttl_a_key : goal.returns-clause-one_ttl_a_key
unfolding digits
returns-clause-one_ttl_a_key c = refl

pub returns-clause-no_operator : goal.returns-clause-no_operator
unfolding digits
returns-clause-no_operator c = refl

pub returns-clause-between_operands : goal.returns-clause-between_operands
unfolding digits
returns-clause-between_operands c = refl

pub returns-clause-own_above_all : goal.returns-clause-own_above_all
unfolding digits
returns-clause-own_above_all c = refl

pub returns-clause-back_with_a_seek : goal.returns-clause-back_with_a_seek
unfolding digits
returns-clause-back_with_a_seek c = refl

pub returns-clause-prefix_without_end : goal.returns-clause-prefix_without_end
unfolding digits
returns-clause-prefix_without_end c = refl

pub returns-clause-last_sequence : goal.returns-clause-last_sequence
unfolding digits
returns-clause-last_sequence c = refl

pub returns-clause-segments_never_nest : goal.returns-clause-segments_never_nest
unfolding digits
returns-clause-segments_never_nest c = refl

pub returns-clause-snapshot_reads : goal.returns-clause-snapshot_reads
unfolding digits
returns-clause-snapshot_reads c = refl

pub returns-clause-times_to_live : goal.returns-clause-times_to_live
unfolding digits
returns-clause-times_to_live c = refl

pub returns-clause-first_day : goal.returns-clause-first_day
unfolding digits
returns-clause-first_day c = refl

pub returns-clause-one_made_round : goal.returns-clause-one_made_round
unfolding digits
returns-clause-one_made_round c = (refl, refl)

pub returns-clause-long_keys : goal.returns-clause-long_keys
returns-clause-long_keys c = long_keys

pub returns-clause-ordinary_day : goal.returns-clause-ordinary_day
unfolding digits
returns-clause-ordinary_day c = refl

pub returns-clause-deleted_key : goal.returns-clause-deleted_key
unfolding digits
returns-clause-deleted_key c = refl

pub returns-clause-greatest_operand : goal.returns-clause-greatest_operand
unfolding digits
returns-clause-greatest_operand c = refl

pub returns-clause-newer_reader : goal.returns-clause-newer_reader
unfolding digits
returns-clause-newer_reader c = refl

pub returns-clause-closed_name : goal.returns-clause-closed_name
unfolding digits
returns-clause-closed_name c = refl

pub returns-clause-moments_and_hex : goal.returns-clause-moments_and_hex
unfolding digits
returns-clause-moments_and_hex c = refl

pub returns-clause-refused_keys : goal.returns-clause-refused_keys
unfolding digits
returns-clause-refused_keys c = refl

pub returns-clause-refused_range : goal.returns-clause-refused_range
unfolding digits
returns-clause-refused_range c = refl

pub returns-clause-snapshot_name : goal.returns-clause-snapshot_name
unfolding digits
returns-clause-snapshot_name c = refl

pub returns-clause-own_operations : goal.returns-clause-own_operations
unfolding digits
returns-clause-own_operations c = refl

pub returns-clause-merged_expiries : goal.returns-clause-merged_expiries
unfolding digits
returns-clause-merged_expiries c = refl

pub returns-clause-prefix_of_a_range : goal.returns-clause-prefix_of_a_range
unfolding digits
returns-clause-prefix_of_a_range c = refl

pub returns-clause-partly_read_scans : goal.returns-clause-partly_read_scans
unfolding digits
returns-clause-partly_read_scans c = (refl, refl, refl, refl, refl, refl, refl)

pub returns-clause-no_lines : goal.returns-clause-no_lines
unfolding digits
returns-clause-no_lines c = (refl, refl, refl, refl, refl, refl)
