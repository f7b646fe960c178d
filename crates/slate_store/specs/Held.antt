-- What the line reader holds.
--     unread h      what is unread of the piece
--     held_bytes h      the partial line, then what is unread
--     model_of h      what callers see
--     IsWhole h      the places are within the piece, and no LF is in the partial line
--     SplitsAt bytes place      the first LF of the bytes stands there
use Rattle.std.specs.Prelude.{◌≡◌, ℕ, ◌+◌, ◌-◌, ◌≤◌, ◌<◌, List, ◌∷◌, ◌++◌, length, slice_range, take, drop, vec_len}
use Rattle.slate_store.specs.declared.lines.Held.{Held}
use Rattle.slate_store.specs.Lines.{HasNoEnd, LinesModel, script_limit}

abbrev pub unread : Held → List ℕ
unread h = slice_range h.piece.items h.start h.«end»

abbrev pub held_bytes : Held → List ℕ
held_bytes h = h.line.items ++ unread h

abbrev pub model_of : Held → LinesModel
model_of h = record { held = held_bytes h; given = h.taken - length (held_bytes h) }

pub record IsWhole (h : Held) : Type 0 where
  pub ordered : h.start ≤ h.«end»
  pub within : h.«end» ≤ vec_len h.piece
  pub partial : HasNoEnd h.line.items
  pub limit : h.taken ≤ script_limit
  pub taken : length (held_bytes h) ≤ h.taken

pub record SplitsAt (bytes : List ℕ) (place : ℕ) : Type 0 where
  pub within : place < length bytes
  pub none : HasNoEnd (take place bytes)
  pub parts : bytes ≡ take place bytes ++ (10 ∷ drop (place + 1) bytes)
