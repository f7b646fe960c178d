-- Bytes as words, low first.
use Rattle.std.proofs.Common.{◌≡◌, ℕ, zero, suc, ◌+◌, ◌-◌, ◌*◌, ◌%◌, ◌^◌, ◌<◌, ◌≤◌, List, [], ◌∷◌, length, get_or, take, drop, refl, sym, ap, ◌∙◌, arith}
use Rattle.std.proofs.lemmas.List.{take_rest}
use Rattle.std.specs.Int.{w64, from_le_bytes}
use Rattle.slate_filter.specs.Hash.{low_first, words, finished, taken_in, all_taken_in}
use Rattle.slate_filter.specs.declared.hash.Sip.{Sip}

-- a word more
pub words_more : (n : ℕ) (s : List ℕ) → 8 ≤ length s → words n s ≡ low_first (take 8 s) ∷ words n (drop 8 s)
words_more n [] p = absurd (omega (arith, p))
words_more n (a ∷ []) p = absurd (omega (arith, p))
words_more n (a ∷ b ∷ []) p = absurd (omega (arith, p))
words_more n (a ∷ b ∷ c ∷ []) p = absurd (omega (arith, p))
words_more n (a ∷ b ∷ c ∷ d ∷ []) p = absurd (omega (arith, p))
words_more n (a ∷ b ∷ c ∷ d ∷ e ∷ []) p = absurd (omega (arith, p))
words_more n (a ∷ b ∷ c ∷ d ∷ e ∷ f ∷ []) p = absurd (omega (arith, p))
words_more n (a ∷ b ∷ c ∷ d ∷ e ∷ f ∷ g ∷ []) p = absurd (omega (arith, p))
words_more n (a ∷ b ∷ c ∷ d ∷ e ∷ f ∷ g ∷ h ∷ s) p = refl

-- the last word
pub words_last : (n : ℕ) (s : List ℕ) → length s < 8 → words n s ≡ (low_first s + n % 256 * 2 ^ 56) ∷ []
words_last n [] p = refl
words_last n (a ∷ []) p = refl
words_last n (a ∷ b ∷ []) p = refl
words_last n (a ∷ b ∷ c ∷ []) p = refl
words_last n (a ∷ b ∷ c ∷ d ∷ []) p = refl
words_last n (a ∷ b ∷ c ∷ d ∷ e ∷ []) p = refl
words_last n (a ∷ b ∷ c ∷ d ∷ e ∷ f ∷ []) p = refl
words_last n (a ∷ b ∷ c ∷ d ∷ e ∷ f ∷ g ∷ []) p = refl
words_last n (a ∷ b ∷ c ∷ d ∷ e ∷ f ∷ g ∷ h ∷ s) p = absurd (omega (arith, p))

-- eight bytes
pub word_is : (s : List ℕ) → 8 ≤ length s →
    from_le_bytes w64 (get_or s 0 0 ∷ get_or s 1 0 ∷ get_or s 2 0 ∷ get_or s 3 0 ∷ get_or s 4 0 ∷ get_or s 5 0 ∷ get_or s 6 0 ∷ get_or s 7 0 ∷ []) ≡ low_first (take 8 s)
word_is [] p = absurd (omega (arith, p))
word_is (a ∷ []) p = absurd (omega (arith, p))
word_is (a ∷ b ∷ []) p = absurd (omega (arith, p))
word_is (a ∷ b ∷ c ∷ []) p = absurd (omega (arith, p))
word_is (a ∷ b ∷ c ∷ d ∷ []) p = absurd (omega (arith, p))
word_is (a ∷ b ∷ c ∷ d ∷ e ∷ []) p = absurd (omega (arith, p))
word_is (a ∷ b ∷ c ∷ d ∷ e ∷ f ∷ []) p = absurd (omega (arith, p))
word_is (a ∷ b ∷ c ∷ d ∷ e ∷ f ∷ g ∷ []) p = absurd (omega (arith, p))
word_is (a ∷ b ∷ c ∷ d ∷ e ∷ f ∷ g ∷ h ∷ s) p = omega arith

-- fewer than 8 bytes have 56 bits
pub low_power : (i : ℕ) → i < 8 → 256 ^ i ≤ 2 ^ 56
low_power zero p = omega arith
low_power (suc zero) p = omega arith
low_power (suc (suc zero)) p = omega arith
low_power (suc (suc (suc zero))) p = omega arith
low_power (suc (suc (suc (suc zero)))) p = omega arith
low_power (suc (suc (suc (suc (suc zero))))) p = omega arith
low_power (suc (suc (suc (suc (suc (suc zero)))))) p = omega arith
low_power (suc (suc (suc (suc (suc (suc (suc zero))))))) p = omega arith
low_power (suc (suc (suc (suc (suc (suc (suc (suc i)))))))) p = absurd (omega (arith, p))

-- a word taken in
pub hash_more : (state next : Sip) (n w : ℕ) (s : List ℕ) → 8 ≤ length s → w ≡ low_first (take 8 s) → next ≡ taken_in state w →
    finished (all_taken_in next (words n (take (length s - 8) (drop 8 s)))) ≡ finished (all_taken_in state (words n s))
hash_more state next n w s p e f =
    ap (λ (r : List ℕ). finished (all_taken_in next (words n r))) (take_rest s 8)
    ∙ ap (λ (t : Sip). finished (all_taken_in t (words n (drop 8 s)))) (f ∙ ap (taken_in state) e)
    ∙ sym (ap (λ (ws : List ℕ). finished (all_taken_in state ws)) (words_more n s p))

-- the last word taken in
pub hash_last : (state next : Sip) (n w : ℕ) (s : List ℕ) → length s < 8 → w ≡ low_first s + n % 256 * 2 ^ 56 → next ≡ taken_in state w →
    finished next ≡ finished (all_taken_in state (words n s))
hash_last state next n w s p e f =
    ap finished (f ∙ ap (taken_in state) e) ∙ sym (ap (λ (ws : List ℕ). finished (all_taken_in state ws)) (words_last n s p))
