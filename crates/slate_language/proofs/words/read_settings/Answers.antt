use Rattle.std.proofs.Common.{map, refl, ap, ◌∙◌}
use Rattle.std.specs.String.{string_bytes}
use Rattle.slate_language.specs.Words.{if_valid}
use Rattle.slate_language.proofs.WordLaws.{words_read}
use Rattle.slate_language.proofs.words.read_settings.Goals as goal

pub returns-in_err-block_size : goal.returns-in_err-block_size
returns-in_err-block_size c = record {
  settings = c.from_residual.ensures ∙ words_read (map string_bytes c.args.words.now) c.in_err-block_size.ensures refl refl refl refl refl refl refl refl;
  valid = rw c.from_residual.ensures tt;
}

pub returns-in_err-table_bytes : goal.returns-in_err-table_bytes
returns-in_err-table_bytes c = record {
  settings = c.from_residual-in_err-table_bytes.ensures ∙ words_read (map string_bytes c.args.words.now) c.in_ok-block_size.ensures c.in_err-table_bytes.ensures refl refl refl refl refl refl refl;
  valid = rw c.from_residual-in_err-table_bytes.ensures tt;
}

pub returns-in_err-block_format : goal.returns-in_err-block_format
returns-in_err-block_format c = record {
  settings = c.from_residual-in_err-block_format.ensures ∙ words_read (map string_bytes c.args.words.now) c.in_ok-block_size.ensures c.in_ok-table_bytes.ensures c.in_err-block_format.ensures refl refl refl refl refl refl;
  valid = rw c.from_residual-in_err-block_format.ensures tt;
}

pub returns-in_err-default_ttl_millis : goal.returns-in_err-default_ttl_millis
returns-in_err-default_ttl_millis c = record {
  settings = c.from_residual-in_err-default_ttl_millis.ensures ∙ words_read (map string_bytes c.args.words.now) c.in_ok-block_size.ensures c.in_ok-table_bytes.ensures c.in_ok-block_format.ensures c.in_err-default_ttl_millis.ensures refl refl refl refl refl;
  valid = rw c.from_residual-in_err-default_ttl_millis.ensures tt;
}

pub returns-in_err-start_seq : goal.returns-in_err-start_seq
returns-in_err-start_seq c = record {
  settings = c.from_residual-in_err-start_seq.ensures ∙ words_read (map string_bytes c.args.words.now) c.in_ok-block_size.ensures c.in_ok-table_bytes.ensures c.in_ok-block_format.ensures c.in_ok-default_ttl_millis.ensures c.in_err-start_seq.ensures refl refl refl refl;
  valid = rw c.from_residual-in_err-start_seq.ensures tt;
}

pub returns-in_err-min_filter_keys : goal.returns-in_err-min_filter_keys
returns-in_err-min_filter_keys c = record {
  settings = c.from_residual-in_err-min_filter_keys.ensures ∙ words_read (map string_bytes c.args.words.now) c.in_ok-block_size.ensures c.in_ok-table_bytes.ensures c.in_ok-block_format.ensures c.in_ok-default_ttl_millis.ensures c.in_ok-start_seq.ensures c.in_err-min_filter_keys.ensures refl refl refl;
  valid = rw c.from_residual-in_err-min_filter_keys.ensures tt;
}

pub returns-in_err-mask : goal.returns-in_err-mask
returns-in_err-mask c = record {
  settings = c.from_residual-in_err-mask.ensures ∙ words_read (map string_bytes c.args.words.now) c.in_ok-block_size.ensures c.in_ok-table_bytes.ensures c.in_ok-block_format.ensures c.in_ok-default_ttl_millis.ensures c.in_ok-start_seq.ensures c.in_ok-min_filter_keys.ensures c.in_err-mask.ensures refl refl;
  valid = rw c.from_residual-in_err-mask.ensures tt;
}

pub returns-in_err-operator : goal.returns-in_err-operator
returns-in_err-operator c = record {
  settings = c.from_residual-in_err-operator.ensures ∙ words_read (map string_bytes c.args.words.now) c.in_ok-block_size.ensures c.in_ok-table_bytes.ensures c.in_ok-block_format.ensures c.in_ok-default_ttl_millis.ensures c.in_ok-start_seq.ensures c.in_ok-min_filter_keys.ensures c.in_ok-mask.ensures c.in_err-operator.ensures refl;
  valid = rw c.from_residual-in_err-operator.ensures tt;
}

pub returns-in_err-segments : goal.returns-in_err-segments
returns-in_err-segments c = record {
  settings = c.from_residual-in_err-segments.ensures ∙ words_read (map string_bytes c.args.words.now) c.in_ok-block_size.ensures c.in_ok-table_bytes.ensures c.in_ok-block_format.ensures c.in_ok-default_ttl_millis.ensures c.in_ok-start_seq.ensures c.in_ok-min_filter_keys.ensures c.in_ok-mask.ensures c.in_ok-operator.ensures c.in_err-segments.ensures;
  valid = rw c.from_residual-in_err-segments.ensures tt;
}

pub returns : goal.returns
returns c = record {
  settings =
      c.if_valid.ensures.settings ∙ ap (λ o. if_valid (record { options = o; mask = c.in_ok-mask.mask; operator = c.in_ok-operator.operator; segments = c.in_ok-segments.segments })) c.options.ensures
      ∙ words_read (map string_bytes c.args.words.now) c.in_ok-block_size.ensures c.in_ok-table_bytes.ensures c.in_ok-block_format.ensures c.in_ok-default_ttl_millis.ensures c.in_ok-start_seq.ensures c.in_ok-min_filter_keys.ensures c.in_ok-mask.ensures c.in_ok-operator.ensures c.in_ok-segments.ensures;
  valid = c.if_valid.ensures.valid;
}
