-- What is found of words without their last cell, from what is found below.
use Rattle.std.proofs.Common.{◌≡◌, ℕ, ◌+◌, ◌*◌, ◌%◌, ◌-◌, ◌^◌, ◌<◌, Bool, true, false, ◌⊎◌, List, length, ℤ, FitsSigned, to_z, of_z, w64, Ok, Err, Result, sym, refl, ap, ◌∙◌, subst, inl, inr, arith}
use Rattle.std.proofs.lemmas.Bool.{both_ways}
use Rattle.std.proofs.lemmas.Int.{to_z-of_z}
use Rattle.std.proofs.lemmas.Nat.{one_shl, shl_whole}
use Rattle.std.specs.Int.Bits.{bit_or, or_shifted_r}
use Rattle.finders.specs.declared.refusals.Refusal.{Refusal}
use Rattle.finders.specs.declared.refusals.Refusal.TheVariants.{Width}
use Rattle.finders.specs.declared.words.WordShape.{WordShape}
use Rattle.finders.specs.Meanings.{Meaning, fit, unfit, Tells}
use Rattle.finders.specs.Sizes.{in_range}
use Rattle.finders.specs.WordFinders.{WordFit, WordLaws, Lawful, shape_of, find_checked, find_answer, test_checked, Contains}
use Rattle.finders.proofs.Fitness.{not_err}
use Rattle.finders.proofs.Within.{range}
use Rattle.code_layers.specs.Parts.{front}
use Rattle.code_layers.specs.PartsLaws.{front_short, front_longer, last_digit, twice}
use Rattle.code_layers.specs.Shorten.{with_last, shortened_fit, shortened}
use Rattle.code_layers.specs.ShortenLaws.{asked_below, correlation_with_last}
use Rattle.finders.proofs.GrantedWords.{find_asked, found_at, shape_told, granted_fits, contains_tells, tells_contains}

-- what is left of an answer below
abbrev pub cut : ℕ → Result (ℕ × ℤ) Refusal → Result (ℕ × ℤ) Refusal
cut n (Ok r) = Ok (front n r.0, r.1)
cut n (Err e) = Err e

pub find_shortened : (M : Meaning WordFit) (s : WordShape) (gs : List ℤ) → Lawful M → Ok s ≡ shape_of (shortened M) → Ok tt ≡ find_checked s.width s.gain_limit gs → cut (length gs) (find_answer M (with_last gs)) ≡ find_answer (shortened M) gs
find_shortened (unfit e) s gs l h k = refl
find_shortened (fit m) s gs l h k =
    let a = find_asked (in_range (m.width - 1)) Width (shortened_fit m) s gs h k in
    let b = asked_below m l (range (m.width - 1) a.0).0 gs a.1 in
    rw (a.0, found_at m (with_last gs) b, found_at (shortened_fit m) gs a.1, correlation_with_last (m.pick (with_last gs)) gs, a.1.as_wide)

-- the same, as the machine cuts the word
pub cut_by_remainder : (n w : ℕ) (c : ℤ) → n < 32 → FitsSigned w64 c → Ok (w % ((1 * 2 ^ n) % 2 ^ 32), to_z w64 (of_z w64 c)) ≡ cut n (Ok (w, c))
cut_by_remainder n w c few fits = rw (one_shl n 32 few, to_z-of_z w64 c fits)

-- A test of a word w of n cells, where what is below tells of w, and of w with a last digit 1.
module _ (m : WordFit) (l : WordLaws m) (n w : ℕ) (wide : m.width ≡ n + 1) (low : w < 2 ^ n) where
  abbrev longer : ℕ
  longer = w + 2 ^ n

  abbrev Shortened : Type 0
  Shortened = (v : ℕ) × m.member v × (w ≡ front n v)

  short_fits : w < 2 ^ m.width
  short_fits = rw wide (omega (arith, twice n))

  longer_fits : longer < 2 ^ m.width
  longer_fits = rw wide (omega (arith, twice n))

  one_of_two : Shortened → m.member w ⊎ m.member longer
  one_of_two (v, h, e) = elim (last_digit n v (rw wide at (l.members_are_as_wide v h))) [
    | inl i ↦ inl (subst m.member (i ∙ sym e) h)
    | inr i ↦ inr (subst m.member (i ∙ ap (λ (u : ℕ). u + 2 ^ n) (sym e)) h)
  ]

  yes_at_first : Contains (fit m) w (Ok true) → Tells (Ok tt) Shortened (Ok true)
  yes_at_first f = (λ t. (w, (contains_tells m w (Ok true) short_fits f).0 t, sym (front_short n w low)), λ h. refl)

  as_told_then : (r : Result Bool Refusal) → Contains (fit m) w (Ok false) → Contains (fit m) longer r → Tells (Ok tt) Shortened r
  as_told_then r f t = go r (contains_tells m longer r longer_fits t)
    where
      go : (r : Result Bool Refusal) → Tells (Ok tt) (m.member longer) r → Tells (Ok tt) Shortened r
      go (Err e) t = t
      go (Ok b) t = (
        λ e. (longer, t.0 e, sym (front_longer n w low)),
        λ h. elim (one_of_two h) [ inl i ↦ absurd (both_ways false refl ((contains_tells m w (Ok false) short_fits f).1 i)) | inr i ↦ t.1 i ],
      )

-- yes where w is a member below, and else as what is told of w with a last digit 1, which the machine sets
pub tells_shortened : (M : Meaning WordFit) (s : WordShape) (w : ℕ) → Lawful M → Ok s ≡ shape_of (shortened M) → Ok tt ≡ test_checked s.width w
    → (Contains M w (Ok true) → Contains (shortened M) w (Ok true)) × ((r : Result Bool Refusal) → Contains M w (Ok false) → Contains M (bit_or w ((1 * 2 ^ s.width) % 2 ^ 32)) r → Contains (shortened M) w r)
tells_shortened (unfit e) s w l h k = absurd (not_err h)
tells_shortened (fit m) s w l h k = (λ f. whole (Ok true) (yes_at_first m l s.width w wide low f), λ r f t. whole r (as_told_then m l s.width w wide low r f (rw set at t)))
  where
    shape : (in_range (m.width - 1) ≡ true) × (s.width ≡ m.width - 1) × (s.gain_limit ≡ m.gain_limit)
    shape = shape_told (in_range (m.width - 1)) Width (shortened_fit m) s h

    low : w < 2 ^ s.width
    low = granted_fits s.width w k

    wide : m.width ≡ s.width + 1
    wide = omega (arith, shape.1, l.some_cell)

    set : bit_or w ((1 * 2 ^ s.width) % 2 ^ 32) ≡ w + 2 ^ s.width
    set = rw (shl_whole 1 1 s.width 32 (omega arith) (omega (arith, wide, l.few_cells))) (omega (arith, or_shifted_r 1 s.width w low))

    whole : (r : Result Bool Refusal) → Tells (Ok tt) (Shortened m l s.width w wide low) r → Contains (shortened (fit m)) w r
    whole r t = rw shape.0 (tells_contains (shortened_fit m) w r (rw shape.1 at low) (rw shape.1 at t))
