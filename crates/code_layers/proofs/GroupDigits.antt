-- The digits of groups, as the machine goes over them.
use Rattle.std.proofs.Common.{◌≡◌, ℕ, zero, suc, ◌+◌, ◌-◌, ◌*◌, ◌/◌, ◌%◌, ◌^◌, ◌<◌, ◌≤◌, fold, arith, add-one, pow_pos, pow_mono}
use lib.Bits.{bit_or}
use Rattle.std.proofs.Math.Nat.{mul-le-mul_left, mul-le-mul_right, pow-succ'}
use Rattle.std.proofs.lemmas.Nat.{shl_whole, or_shifted, shr-shr}
use Rattle.code_layers.specs.Repeat.{run, repeated}
use Rattle.code_layers.specs.Groups.{firsts}
use Rattle.code_layers.specs.RepeatLaws.{one_digit, run_behind, repeated_below}
use Rattle.code_layers.proofs.CountingDown.{down, fold_down}

pub size_few : (a n : ℕ) → 1 ≤ n → a * n ≤ 32 → a ≤ 32
size_few a n some few = omega (arith, mul-le-mul_left a some)

-- where group i begins
pub place_small : (a n i : ℕ) → i < n → 1 ≤ a → a * n ≤ 32 → i * a < 32
place_small a n i h s few = omega (arith, mul-le-mul_left a h)

-- ---- a word with each digit so many times

-- b has a digits 1
run_is : (a b d w : ℕ) → b + 1 ≡ 2 ^ a → run a d w ≡ w * 2 ^ a + d * b
run_is zero b d w e = let z : b ≡ 0 = omega arith in rw z (omega arith)
run_is (suc a) b d w e =
    let p = pow_pos a in
    let q = pow-succ' 2 a in
    let z : b ≡ 2 * (2 ^ a - 1) + 1 = omega arith in
    rw (run_is a (2 ^ a - 1) d w (omega arith), q, z) (omega arith)

module _ (a b : ℕ) (e : b + 1 ≡ 2 ^ a) where
  -- a digit is shifted in, in each cell of its group, below those of the later groups
  abbrev pub spreads : (v w i : ℕ) → ℕ
  spreads v w i = bit_or ((w * 2 ^ a) % 2 ^ 64) (v / 2 ^ i % 2 * b)

  spread_digit : (j d v : ℕ) → d < 2 → a * suc j ≤ 64 → bit_or ((repeated a j v * 2 ^ a) % 2 ^ 64) (d * b) ≡ run a d (repeated a j v)
  spread_digit j d v h few =
      let one : d ≤ 1 = omega arith in
      rw (shl_whole (repeated a j v) (a * j) a 64 (repeated_below a j v) (omega arith), or_shifted (repeated a j v) a (d * b) (omega (arith, mul-le-mul_right b one)), run_is a b d (repeated a j v) e)

  pub spread : (n v : ℕ) → a * n ≤ 32 → fold (spreads v) 0 (down 0 n) ≡ repeated a n v
  spread n v few =
      let none : n - n ≡ 0 = omega arith in
      let all : n - 0 ≡ n = omega arith in
      let one : v / 1 ≡ v = omega arith in
      rw (none, all, one) at (fold_down (spreads v) (λ i. repeated a (n - i) (v / 2 ^ i)) n turn)
    where
      turn : (i : ℕ) → i < n → spreads v (repeated a (n - suc i) (v / 2 ^ suc i)) i ≡ repeated a (n - i) (v / 2 ^ i)
      turn i h =
          let half : v / 2 ^ i / 2 ≡ v / 2 ^ suc i = rw add-one at (shr-shr v i 1) in
          let s : n - i ≡ suc (n - suc i) = omega arith in
          let fewer : suc (n - suc i) ≤ n = omega arith in
          let room : a * suc (n - suc i) ≤ 64 = omega (arith, mul-le-mul_left a fewer) in
          rw (s, half) (spread_digit (n - suc i) (v / 2 ^ i % 2) (v / 2 ^ suc i) (one_digit (v / 2 ^ i)) room)

pub repeated_fits : (a n v : ℕ) → a * n ≤ 32 → repeated a n v < 2 ^ 32
repeated_fits a n v few = omega (arith, repeated_below a n v, pow_mono few)

-- ---- the first digits of groups

pub firsts_below : (a n w : ℕ) → firsts a n w < 2 ^ n
firsts_below a zero w = omega arith
firsts_below a (suc n) w = rw (pow-succ' 2 n) (omega (arith, firsts_below a n (w / 2 ^ a)))

module _ (a w : ℕ) where
  -- a first digit is shifted in below those of the later groups
  abbrev pub gathers : (v i : ℕ) → ℕ
  gathers v i = bit_or ((v * 2) % 2 ^ 32) (w / 2 ^ (i * a) % 2)

  pub gather : (n : ℕ) → 1 ≤ a → a * n ≤ 32 → fold gathers 0 (down 0 n) ≡ firsts a n w
  gather n some few =
      let none : n - n ≡ 0 = omega arith in
      let all : n - 0 ≡ n = omega arith in
      let z : 0 * a ≡ 0 = omega arith in
      let one : w / 1 ≡ w = omega arith in
      rw (none, all, z, one) at (fold_down gathers (λ i. firsts a (n - i) (w / 2 ^ (i * a))) n turn)
    where
      turn : (i : ℕ) → i < n → gathers (firsts a (n - suc i) (w / 2 ^ (suc i * a))) i ≡ firsts a (n - i) (w / 2 ^ (i * a))
      turn i h =
          let t : i * a + a ≡ suc i * a = omega arith in
          let behind : w / 2 ^ (i * a) / 2 ^ a ≡ w / 2 ^ (suc i * a) = rw t at (shr-shr w (i * a) a) in
          let s : n - i ≡ suc (n - suc i) = omega arith in
          let f : ℕ = firsts a (n - suc i) (w / 2 ^ (suc i * a)) in
          let whole : (f * 2) % 2 ^ 32 ≡ f * 2 ^ 1 = shl_whole f (n - suc i) 1 32 (firsts_below a (n - suc i) (w / 2 ^ (suc i * a))) (omega (arith, mul-le-mul_right n some)) in
          rw (s, behind, whole, or_shifted f 1 (w / 2 ^ (i * a) % 2) (one_digit (w / 2 ^ (i * a)))) (omega arith)

run_first : (a d w : ℕ) → 1 ≤ a → d < 2 → run a d w % 2 ≡ d
run_first zero d w some h = absurd (omega arith)
run_first (suc a) d w some h = omega arith

-- the first digits of a repeated word are those that it repeats
pub firsts_repeated : (a n v : ℕ) → 1 ≤ a → v < 2 ^ n → firsts a n (repeated a n v) ≡ v
firsts_repeated a zero v some h = omega arith
firsts_repeated a (suc n) v some h =
    let d = one_digit v in
    let b : v / 2 < 2 ^ n = omega (arith, pow-succ' 2 n) in
    rw (run_first a (v % 2) (repeated a n (v / 2)) some d, run_behind (v % 2) (repeated a n (v / 2)) d a, firsts_repeated a n (v / 2) some b) (omega arith)
