use Rattle.std.proofs.Common.{◌≡◌, ℕ, ◌<◌, List, [], ◌∷◌, map, length, ℤ, pos, nat_abs, refl, ap, Option, MatchOption, rules}
use Rattle.std.specs.List.{zip}
use Rattle.std.proofs.lemmas.Iterator.{YieldsList, YieldsList-from_slice, YieldsList-from_zip, YieldsList-from_map}
use Rattle.integers.specs.Nearest.{residue}
use Rattle.finders.specs.declared.choice.Greatest.{Greatest}
use Rattle.finders.specs.Choice.{no_smaller}
use Rattle.finders.proofs.FirstRuns.{found_first}
use Rattle.finders.proofs.Scores.{Great, large, large_decides}
use Rattle.lattices.specs.LatticeZ.{rounded}
use Rattle.lattices.specs.LatticeD.{left_over, worst_cell}
use Rattle.lattices.proofs.cells.Group.worst.Goals as goal

-- what a number leaves of its reading
abbrev size : ℕ → ℤ × ℤ → Greatest
size q p = large (nat_abs (residue q p.0 p.1))

sizes : (q : ℕ) (rs : List ℤ) → map (size q) (zip rs (rounded q rs)) ≡ map (λ r. large (left_over q r)) rs
sizes q [] = refl
sizes q (r ∷ rs) = ap (λ (v : List Greatest). large (left_over q r) ∷ v) (sizes q rs)

-- what an iterator of sizes gives, read off the readings alone
of_readings : {S : Type 0} {steps : S → Option Greatest → S → Type 0} {s : S} (q : ℕ) (rs : List ℤ) → YieldsList steps (λ r. r) s (map (size q) (zip rs (rounded q rs))) → YieldsList steps (λ r. r) s (map (λ r. large (left_over q r)) rs)
of_readings q rs y = rw (sizes q rs) at y

pub returns : goal.returns
returns c =
    let q = c.args.self.now.step in
    let rs = c.args.self.now.readings.now in
    let found : MatchOption c.first_best.result (rs ≡ []) (λ b. (b.0 ≡ worst_cell q rs) × (b.0 < length rs)) =
    found_first (left_over q) large no_smaller Great large_decides (pos 0) rs c.first_best.result c.first_best.ensures.is_the_first_best
    (of_readings q rs (YieldsList-from_map _ (size q) (YieldsList-from_zip (YieldsList-from_slice rs cc) (YieldsList-from_slice (rounded q rs) (cc c.requires.rounded))) c.map-sizes.ensures.closure (λ x r f k. search rules)))
    _ (λ b i here size. (i, here)) in
    search rules
