-- SipHash-1-3 with both keys zero.
--     filter_hash bytes      the hash, a number below 2 ^ 64
use Rattle.std.specs.Prelude.{ℕ, ◌+◌, ◌*◌, ◌%◌, ◌^◌, bit_xor, List, [], ◌∷◌, length}
use Rattle.std.specs.Int.{w64, rotate_left}
use Rattle.slate_filter.specs.declared.hash.Sip.{Sip}

abbrev pub plus64 : ℕ → ℕ → ℕ
plus64 a b = (a + b) % 2 ^ 64

abbrev pub turned : ℕ → ℕ → ℕ
turned n by = rotate_left w64 n by

-- the four sums of a round, each with the rotations that follow it
abbrev pub sum_fourth : ℕ → ℕ → ℕ → ℕ → Sip
sum_fourth v0 v1 v2 v3 = record { v0 = v0; v1 = bit_xor (turned v1 17) v2; v2 = turned v2 32; v3 = v3 }

abbrev pub sum_third : ℕ → ℕ → ℕ → ℕ → Sip
sum_third v0 v1 v2 v3 = sum_fourth v0 v1 (plus64 v2 v1) (bit_xor (turned v3 21) v0)

abbrev pub sum_second : ℕ → ℕ → ℕ → ℕ → Sip
sum_second v0 v1 v2 v3 = sum_third (plus64 v0 (bit_xor (turned v3 16) v2)) v1 v2 (bit_xor (turned v3 16) v2)

abbrev pub sum_first : ℕ → ℕ → ℕ → ℕ → Sip
sum_first v0 v1 v2 v3 = sum_second (turned v0 32) (bit_xor (turned v1 13) v0) (plus64 v2 v3) v3

abbrev pub sip_round : Sip → Sip
sip_round s = sum_first (plus64 s.v0 s.v1) s.v1 s.v2 s.v3

abbrev pub onto_first : ℕ → Sip → Sip
onto_first m s = record s { v0 = bit_xor s.v0 m }

abbrev pub taken_in : Sip → ℕ → Sip
taken_in s m = onto_first m (sip_round (record s { v3 = bit_xor s.v3 m }))

abbrev pub all_taken_in : Sip → List ℕ → Sip
all_taken_in s [] = s
all_taken_in s (m ∷ ms) = all_taken_in (taken_in s m) ms

abbrev pub low_first : List ℕ → ℕ
low_first [] = 0
low_first (b ∷ bs) = b + 256 * low_first bs

-- the whole 8 bytes, and the rest with the length modulo 256 in its highest byte
abbrev pub words : ℕ → List ℕ → List ℕ
words n (a ∷ b ∷ c ∷ d ∷ e ∷ f ∷ g ∷ h ∷ bs) = low_first (a ∷ b ∷ c ∷ d ∷ e ∷ f ∷ g ∷ h ∷ []) ∷ words n bs
words n bs = (low_first bs + n % 256 * 2 ^ 56) ∷ []

abbrev pub mixed : Sip → ℕ
mixed s = bit_xor (bit_xor s.v0 s.v1) (bit_xor s.v2 s.v3)

abbrev pub finished : Sip → ℕ
finished s = mixed (sip_round (sip_round (sip_round (record s { v2 = bit_xor s.v2 0xff }))))

abbrev pub sip_start : Sip
sip_start = record { v0 = 0x736f6d6570736575; v1 = 0x646f72616e646f6d; v2 = 0x6c7967656e657261; v3 = 0x7465646279746573 }

abbrev pub filter_hash : List ℕ → ℕ
filter_hash bytes = finished (all_taken_in sip_start (words (length bytes) bytes))
