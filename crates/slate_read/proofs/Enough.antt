-- How many blocks one read takes.
use Rattle.std.proofs.Common.{◌≡◌, ◌<◌, ◌≤◌, ◌+◌, ◌-◌, ℕ, suc, zero, sym, ap, subst, ◌∙◌, arith}
use Rattle.slate_read.specs.TableWalk.{IsEnough, size_upto}

grows : (size : ℕ → ℕ) (m n : ℕ) → size_upto size m ≤ size_upto size (m + n)
grows size m zero = let same : m ≡ m + 0 = omega arith in subst (λ k. size_upto size m ≤ size_upto size k) same (omega arith)
grows size m (suc n) =
    let k = grows size m n in
    let same : suc (m + n) ≡ m + suc n = omega arith in
    subst (λ k. size_upto size m ≤ size_upto size k) same (omega (arith, k))

upto : (size : ℕ → ℕ) (m n : ℕ) → m ≤ n → size_upto size m ≤ size_upto size n
upto size m n le = let same : m + (n - m) ≡ n = omega (arith, le) in subst (λ k. size_upto size m ≤ size_upto size k) same (grows size m (n - m))

-- the last one that was counted is size_upto's last
last_of : (size : ℕ → ℕ) (count : ℕ) → 0 < count → size_upto size count ≡ size_upto size (count - 1) + size (count - 1)
last_of size zero some = absurd (omega (arith, some))
last_of size (suc n) some = let same : suc n - 1 ≡ n = omega arith in sym (ap (λ k. size_upto size k + size k) same)

module _ (size : ℕ → ℕ) (bytes all count rest : ℕ) (some : 0 < count) (sum : size_upto size (count - 1) + rest ≡ bytes) (more : 1 < count → 0 < rest) where
  too_few : (n : ℕ) → 0 < n → n < count → size_upto size n < bytes
  too_few n first below =
      let le = upto size n (count - 1) (omega (arith, below)) in
      let left = more (omega (arith, first, below)) in
      omega (arith, le, left, sum)

  pub stops : count ≤ all → rest ≤ size (count - 1) → IsEnough size bytes all count
  stops within enough =
      let last = last_of size count some in
      record { some = some; within = within; enough = λ below. omega (arith, last, sum, enough); no_more = too_few }

  pub takes_all : count ≡ all → IsEnough size bytes all all
  takes_all same = subst (λ k. IsEnough size bytes all k) same (record { some = some; within = omega (arith, same); enough = λ below. absurd (omega (arith, same, below)); no_more = too_few })

  pub goes_on : size (count - 1) < rest → size_upto size (count + 1 - 1) + (rest - size (count - 1)) ≡ bytes
  goes_on less =
      let last = last_of size count some in
      let same : count + 1 - 1 ≡ count = omega arith in
      ap (λ k. size_upto size k + (rest - size (count - 1))) same ∙ omega (arith, last, sum, less)
