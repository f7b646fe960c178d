-- When a row expires. Moments are signed numbers of 64 bits.
--     expiry ttl default now      the moment plus the time to live; none without one, or past the greatest moment
use Rattle.std.specs.Prelude.{ℕ, ◌-◌, ◌^◌, if◌then◌else◌, Option, Some, None, ℤ, pos, ◌+ℤ◌, int_lt}
use Rattle.slate_types.specs.declared.config.Ttl.{Ttl}
use Rattle.slate_types.specs.declared.config.Ttl.TheVariants.{Default, NoExpiry, ExpireAfter}

abbrev pub millis_of : Ttl → Option ℕ → Option ℕ
millis_of Default default_millis = default_millis
millis_of NoExpiry default_millis = None
millis_of (ExpireAfter n) default_millis = Some n

abbrev pub within_moments : ℤ → Option ℤ
within_moments z = if int_lt (pos (2 ^ 63 - 1)) z then None else Some z

abbrev pub moment_after : ℤ → Option ℕ → Option ℤ
moment_after now None = None
moment_after now (Some n) = within_moments (now +ℤ pos n)

abbrev pub expiry : Ttl → Option ℕ → ℤ → Option ℤ
expiry ttl default_millis now = moment_after now (millis_of ttl default_millis)
