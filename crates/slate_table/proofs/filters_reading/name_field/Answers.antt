use Rattle.slate_table.proofs.FiltersReads.{name_read, name_refused}
use Rattle.slate_table.proofs.filters_reading.name_field.Goals as goal

pub returns-in-Ok-clause-found : goal.returns-in-Ok-clause-found
returns-in-Ok-clause-found c =
    let cases = c.in-Ok.ensures.cases in
    name_read c.args.bytes.now c.args.at c.in_ok-len.len c.in_ok-len.at c.in_ok-start.start c.in_ok-start.end c.in-Ok.name.now c.in_ok-len.ensures.value c.in_ok-start.ensures.value cases.0 cases.1

pub returns-in-Err-clause-cause : goal.returns-in-Err-clause-cause
returns-in-Err-clause-cause c =
    let cases = c.in-Err.ensures.cases in
    name_refused c.args.bytes.now c.args.at c.in_ok-len.len c.in_ok-len.at c.in_ok-start.start c.in_ok-start.end c.corrupt.result c.in_ok-len.ensures.value c.in_ok-start.ensures.value cases.0 c.corrupt.ensures
