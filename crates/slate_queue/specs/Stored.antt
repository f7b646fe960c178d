-- How a queue stands in a store.
--     counter_key, job_key id      where the counter and a job stand
--     number_bytes n, number_of bytes      a number of 8 bytes, the greatest first
--     Job      a job: its lease number, its lease's end and its payload
--     job_bytes j, job_of value      a job as it is stored, and the job in a stored value
--     lease_of value      the lease number in a stored job
--     counter_in value      the counter in a stored value, and 0 where there is none
--     is_job_key k, id_of k      the key is a job's, and whose
use Rattle.std.specs.Prelude.{ℕ, ℤ, Bool, ◌&&◌, if◌then◌else◌, nat_eq, nat_le, List, [], ◌∷◌, ◌++◌, length, take, drop, Option, Some, None}
use Rattle.std.specs.List.{starts_with}
use Rattle.std.specs.Int.{w64, to_be_bytes, from_be_bytes, cast_unsigned, cast_signed}

-- n
abbrev pub counter_key : List ℕ
counter_key = 110 ∷ []

-- j
abbrev pub jobs_prefix : List ℕ
jobs_prefix = 106 ∷ []

unfoldable pub number_bytes : ℕ → List ℕ
number_bytes n = to_be_bytes w64 n

unfoldable pub number_of : List ℕ → ℕ
number_of bytes = from_be_bytes w64 bytes

-- j, and the id
abbrev pub job_key : ℕ → List ℕ
job_key id = 106 ∷ number_bytes id

abbrev pub is_job_key : List ℕ → Bool
is_job_key k = starts_with nat_eq k jobs_prefix && nat_eq (length k) 9

abbrev pub id_of : List ℕ → ℕ
id_of k = number_of (drop 1 k)

pub record Job : Type 0 where
  pub lease : ℕ
  pub ends : ℤ
  pub payload : List ℕ

abbrev pub job_bytes : Job → List ℕ
job_bytes j = number_bytes j.lease ++ (number_bytes (cast_unsigned w64 j.ends) ++ j.payload)

abbrev pub lease_of : List ℕ → ℕ
lease_of value = number_of (take 8 value)

abbrev pub job_of : List ℕ → Option Job
job_of value =
    if nat_le 16 (length value)
    then Some (record { lease = lease_of value; ends = cast_signed w64 (number_of (take 8 (drop 8 value))); payload = drop 16 value })
    else None

abbrev pub counter_in : Option (List ℕ) → Option ℕ
counter_in None = Some 0
counter_in (Some value) = if nat_eq (length value) 8 then Some (number_of value) else None
