-- The sums of groups, as the machine adds them one by one.
use Rattle.std.proofs.Common.{◌≡◌, ℕ, zero, suc, ◌+◌, ◌*◌, ◌/◌, ◌^◌, ◌<◌, ◌≤◌, min, true, List, ◌++◌, length, take, drop, set, ℤ, ap, ◌∙◌, arith, add-one, append_assoc}
use Rattle.std.proofs.Math.Nat.{mul-le-mul_left, mul-le-mul_right}
use Rattle.std.proofs.Math.Seq.{take-suc-set}
use Rattle.std.proofs.lemmas.List.{length-append, length-set, take_at, drop_at}
use Rattle.integers.specs.Sums.{sumℤ}
use Rattle.finders.specs.Points.{within}
use Rattle.finders.proofs.Within.{within_take, within_drop}
use Rattle.code_layers.specs.Repeat.{group_sums}

-- i of n groups are added, and the others are still to come
pub record Summed (a n : ℕ) (gs sums : List ℤ) (i : ℕ) (rest : List ℤ) : Type 0 where
  pub left : ℕ
  pub counted : i + left ≡ n
  pub covers : length rest ≡ a * left
  pub room : length sums ≡ 32
  pub small_rest : within (2 ^ 30 / a) rest ≡ true
  pub summed : take i sums ++ group_sums a left rest ≡ group_sums a n gs

-- a chunk comes off, and others stay
pub record Chunk (a : ℕ) (rest x others : List ℤ) : Type 0 where
  pub parts : rest ≡ x ++ others
  pub long : length x ≡ min a (length rest)
  pub some : 0 < length rest

module _ {a n : ℕ} {gs sums : List ℤ} {i : ℕ} {rest x others : List ℤ} (s : Summed a n gs sums i rest) (c : Chunk a rest x others) where
  one_left : (left : ℕ) → length rest ≡ a * left → 1 ≤ left
  one_left zero e = absurd (omega (arith, c.some))
  one_left (suc k) e = omega arith

  -- it is a whole group
  wide : length x ≡ a
  wide = omega (arith, c.long, s.covers, mul-le-mul_left a (one_left s.left s.covers))

  front : take a rest ≡ x
  front = ap (take a) c.parts ∙ take_at x others a wide

  behind : drop a rest ≡ others
  behind = ap (drop a) c.parts ∙ drop_at x others a wide

  pub small_group : within (2 ^ 30 / length x) x ≡ true
  small_group = rw wide (rw front at (within_take (2 ^ 30 / a) a rest s.small_rest))

  pub summed_more : 1 ≤ a → a * n ≤ 32 → Summed a n gs (set sums i (sumℤ x)) (i + 1) others
  summed_more cell few = go s.left s.counted s.covers s.summed
    where
      go : (left : ℕ) → i + left ≡ n → length rest ≡ a * left → take i sums ++ group_sums a left rest ≡ group_sums a n gs → Summed a n gs (set sums i (sumℤ x)) (i + 1) others
      go zero p e t = absurd (omega (arith, c.some))
      go (suc k) p e t =
          let here : i < length sums = omega (arith, s.room, mul-le-mul_right n cell) in
          record {
            left = k;
            counted = omega arith;
            covers = omega (arith, ap length c.parts, length-append x others, wide);
            room = length-set sums i (sumℤ x) ∙ s.room;
            small_rest = rw behind at (within_drop (2 ^ 30 / a) a rest s.small_rest);
            summed = rw (add-one, take-suc-set sums i (sumℤ x) here, append_assoc) (rw (front, behind) at t);
          }
