use Rattle.slate_db.proofs.Serial.{at_their_places, calls_vouched, commits_vouched, new_vouched, others_vouched, writes_vouched}
use Rattle.slate_db.proofs.laws.transactions.Goals as goal

pub returns : goal.returns
returns c = record { new_core = new_vouched; commits = commits_vouched; other_events = others_vouched; calls = calls_vouched; writes = writes_vouched; at_their_places = at_their_places }
