-- The laws of joined points: each part is asked for its readings, and the distances of the parts add up.
use Rattle.std.specs.Prelude.{◌≡◌, ℕ, zero, suc, ◌+◌, ◌≤◌, List, [], ◌∷◌, ◌++◌, length, take, drop, ℤ, min}
use Rattle.std.proofs.Common.{sym, refl, ap₂, arith}
use Rattle.std.proofs.Math.Seq.{take-append_seam, drop-append_seam}
use Rattle.std.proofs.lemmas.List.{length-take, length-take-le, length-drop}
use Rattle.finders.specs.declared.refusals.Refusal.TheVariants.{Width}
use Rattle.finders.specs.Meanings.{Meaning, fit, unfit}
use Rattle.finders.specs.Sizes.{in_range}
use Rattle.finders.specs.Points.{distance, SmallResidues}
use Rattle.finders.specs.PointFinders.{PointFit, PointLaws, Lawful, Asked, SameFit, Same}
use Rattle.finders.proofs.Fitness.{unfit_unless_keeps, unfit_unless_agrees}
use Rattle.finders.proofs.Within.{within_front, within_back, range}
use Rattle.lattice_layers.specs.Join.{joined_fit, joined}

-- ---- a point in two parts

distance_to_none : (q : ℕ) (rs : List ℤ) → distance q rs [] ≡ 0
distance_to_none q [] = refl
distance_to_none q (r ∷ rs) = refl

pub distance_parts : (q n : ℕ) (rs x : List ℤ) → distance q rs x ≡ distance q (take n rs) (take n x) + distance q (drop n rs) (drop n x)
distance_parts q zero rs x = omega arith
distance_parts q (suc n) [] x = omega arith
distance_parts q (suc n) (r ∷ rs) [] = omega (arith, distance_to_none q (drop n rs))
distance_parts q (suc n) (r ∷ rs) (y ∷ x) = omega (arith, distance_parts q n rs x)

-- x and y are the parts, of which x has n coordinates
module _ (n : ℕ) (x y : List ℤ) (wide : length x ≡ n) where
  front_joined : take n (x ++ y) ≡ x
  front_joined = rw (sym wide) (take-append_seam x y)

  back_joined : drop n (x ++ y) ≡ y
  back_joined = rw (sym wide) (drop-append_seam x y)

  pub distance_joined : (q : ℕ) (rs : List ℤ) → distance q rs (x ++ y) ≡ distance q (take n rs) x + distance q (drop n rs) y
  distance_joined q rs = rw (front_joined, back_joined) at (distance_parts q n rs (x ++ y))

small_joined : (q n : ℕ) (rs x y : List ℤ) → length x ≡ n → SmallResidues q (take n rs) x → SmallResidues q (drop n rs) y → SmallResidues q rs (x ++ y)
small_joined q zero rs [] y e h k = k
small_joined q zero rs (z ∷ x) y e h k = absurd (omega arith)
small_joined q (suc n) rs [] y e h k = absurd (omega arith)
small_joined q (suc n) [] (z ∷ x) y e h k = tt
small_joined q (suc n) (r ∷ rs) (z ∷ x) y e h k = (h.0, small_joined q n rs x y (omega arith) h.1 k)

-- ---- the laws

module _ (m n : PointFit) (l : PointLaws m) (k : PointLaws n) where
  module _ (rs : List ℤ) (q : ℕ) (a : Asked (joined_fit m n) rs q) where
    pub asked_first : Asked m (take m.width rs) q
    asked_first = record {
      as_wide = length-take-le m.width rs (omega (arith, a.as_wide));
      readings_within = within_front m.reading_limit n.reading_limit m.width rs a.readings_within;
      step_from_one = a.step_from_one;
      step_within = omega (arith, a.step_within);
    }

    pub asked_second : Asked n (drop m.width rs) q
    asked_second = record {
      as_wide = rw length-drop (omega (arith, a.as_wide));
      readings_within = within_back m.reading_limit n.reading_limit m.width rs a.readings_within;
      step_from_one = a.step_from_one;
      step_within = omega (arith, a.step_within);
    }

    abbrev first : List ℤ
    first = m.pick (take m.width rs) q

    abbrev second : List ℤ
    second = n.pick (drop m.width rs) q

    pub first_wide : length first ≡ m.width
    first_wide = l.members_are_as_wide first (l.pick_is_a_member (take m.width rs) q asked_first)

    pick_is_joined : m.member (take m.width (first ++ second)) × n.member (drop m.width (first ++ second))
    pick_is_joined =
        rw (front_joined m.width first second first_wide, back_joined m.width first second first_wide)
        (l.pick_is_a_member (take m.width rs) q asked_first, k.pick_is_a_member (drop m.width rs) q asked_second)

    none_nearer : (x : List ℤ) → m.member (take m.width x) × n.member (drop m.width x) → distance q rs (first ++ second) ≤ distance q rs x
    none_nearer x h =
        let a = l.no_member_is_nearer (take m.width rs) q asked_first (take m.width x) h.0 in
        let b = k.no_member_is_nearer (drop m.width rs) q asked_second (drop m.width x) h.1 in
        rw (distance_parts q m.width rs x, distance_joined m.width first second first_wide q rs) (omega arith)

    residues_small : SmallResidues q rs (first ++ second)
    residues_small = small_joined q m.width rs first second first_wide (l.residues_are_small (take m.width rs) q asked_first) (k.residues_are_small (drop m.width rs) q asked_second)

  joined_wide : (x : List ℤ) → m.member (take m.width x) × n.member (drop m.width x) → length x ≡ m.width + n.width
  joined_wide x h =
      let front = l.members_are_as_wide (take m.width x) h.0 in
      let back = k.members_are_as_wide (drop m.width x) h.1 in
      omega (arith, front, back, length-take m.width x, length-drop m.width x, k.some_cell)

  joined_laws : (1 ≤ m.width + n.width) × (m.width + n.width ≤ 32) → PointLaws (joined_fit m n)
  joined_laws r = record {
    some_cell = r.0;
    few_cells = r.1;
    some_reading = omega (arith, l.some_reading, k.some_reading);
    small_readings = omega (arith, l.small_readings);
    some_step = omega (arith, l.some_step, k.some_step);
    small_steps = omega (arith, l.small_steps);
    members_are_as_wide = joined_wide;
    pick_is_a_member = pick_is_joined;
    no_member_is_nearer = none_nearer;
    residues_are_small = residues_small;
  }

pub joined_lawful : (M N : Meaning PointFit) → Lawful M → Lawful N → Lawful (joined M N)
joined_lawful (unfit e) N l k = tt
joined_lawful (fit m) (unfit e) l k = tt
joined_lawful (fit m) (fit n) l k = unfit_unless_keeps PointLaws (in_range (m.width + n.width)) Width (fit (joined_fit m n)) (λ e. joined_laws m n l k (range (m.width + n.width) e))

-- ---- over finders that mean the same

pub joined_alike : (M M' N N' : Meaning PointFit) → Same M M' → Same N N' → Same (joined M N) (joined M' N')
joined_alike (unfit e) (unfit f) N N' s t = s
joined_alike (unfit e) (fit m') N N' s t = absurd s
joined_alike (fit m) (unfit f) N N' s t = absurd s
joined_alike (fit m) (fit m') (unfit e) (unfit f) s t = t
joined_alike (fit m) (fit m') (unfit e) (fit n') s t = absurd t
joined_alike (fit m) (fit m') (fit n) (unfit f) s t = absurd t
joined_alike (fit m) (fit m') (fit n) (fit n') s t =
    let cut = s.same_width in
    unfit_unless_agrees SameFit (in_range (m.width + n.width)) (in_range (m'.width + n'.width)) Width (fit (joined_fit m n)) (fit (joined_fit m' n')) (ap₂ (λ (j k : ℕ). in_range (j + k)) cut t.same_width) (record {
      same_width = ap₂ ◌+◌ cut t.same_width;
      same_reading_limit = ap₂ min s.same_reading_limit t.same_reading_limit;
      same_step_limit = ap₂ min s.same_step_limit t.same_step_limit;
      same_members = λ x. (
        λ h. ((s.same_members (take m'.width x)).0 (rw cut at h.0), (t.same_members (drop m'.width x)).0 (rw cut at h.1)),
        λ h. (rw cut ((s.same_members (take m'.width x)).1 h.0), rw cut ((t.same_members (drop m'.width x)).1 h.1)),
      );
      same_picks = λ rs q. rw (cut, s.same_picks (take m'.width rs) q, t.same_picks (drop m'.width rs) q) refl;
    })
