-- One more offer: what is held is still the first best.
use Rattle.std.proofs.lemmas.Bool.{both_ways}
use Rattle.std.proofs.Common.{Bool, true, false, cond, Decides, MatchOption, ◌≡◌, ◌⊎◌, List, [], ◌∷◌, ◌++◌, Some, None, Option, sym, refl, ap, ◌∙◌, subst, inl, inr, append_assoc}
use Rattle.std.specs.List.{AllByRecursion}
use Rattle.std.proofs.ByRecursion.{All-append, All-weaker}
use Rattle.finders.specs.Choice.{IsFirstBest, Chosen}

module _ {S : Type 0} (good : S → S → Type 0) (total : (a b : S) → good a b ⊎ good b a) (chain : (a b c : S) → good a b → good b c → good a c) where
  -- a is worse than b
  from_worse : (a b : S) → (good a b → ⊥) → good b a
  from_worse a b n = elim (total a b) [ inl h ↦ absurd (n h) | inr h ↦ h ]

  offer_taken : {C : Type 0} (offers : List (C × S)) (b x : C × S) → (good b.1 x.1 → ⊥) → IsFirstBest good offers b → IsFirstBest good (offers ++ x ∷ []) x
  offer_taken {C} offers b x n f = record {
    earlier = offers;
    later = [];
    stands = refl;
    earlier_are_worse = subst (AllByRecursion Worse) (sym f.stands) (All-append Worse f.earlier (b ∷ f.later) before (n, after));
    later_are_no_better = tt;
  }
    where
      Worse : C × S → Type 0
      Worse y = good y.1 x.1 → ⊥

      before : AllByRecursion Worse f.earlier
      before = All-weaker (λ y. good y.1 b.1 → ⊥) Worse (λ y w g. n (chain b.1 y.1 x.1 (from_worse y.1 b.1 w) g)) f.earlier f.earlier_are_worse

      after : AllByRecursion Worse f.later
      after = All-weaker (λ y. good b.1 y.1) Worse (λ y w g. n (chain b.1 y.1 x.1 w g)) f.later f.later_are_no_better

  offer_stays : {C : Type 0} (offers : List (C × S)) (b x : C × S) → good b.1 x.1 → IsFirstBest good offers b → IsFirstBest good (offers ++ x ∷ []) b
  offer_stays offers b x g f = record {
    earlier = f.earlier;
    later = f.later ++ x ∷ [];
    stands = ap (λ v. v ++ x ∷ []) f.stands ∙ append_assoc f.earlier (b ∷ f.later) (x ∷ []);
    earlier_are_worse = f.earlier_are_worse;
    later_are_no_better = All-append (λ y. good b.1 y.1) f.later (x ∷ []) f.later_are_no_better (g, tt);
  }

  -- r tells whether something is held that is at least as good as x; then it stays, and else x takes its place
  pub chosen_more : {C : Type 0} (offers : List (C × S)) (held : Option (C × S)) (x : C × S) (r : Bool) → MatchOption held (r ≡ false) (λ b. Decides r (good b.1 x.1)) → Chosen good offers held → Chosen good (offers ++ x ∷ []) (cond r held (Some x))
  chosen_more offers None x r f e = rw (f, e) (record { earlier = []; later = []; stands = refl; earlier_are_worse = tt; later_are_no_better = tt })
  chosen_more offers (Some b) x true d f = offer_stays offers b x (d.0 refl) f
  chosen_more offers (Some b) x false d f = offer_taken offers b x (λ g. both_ways true (sym (d.1 g)) refl) f

-- what is known of what is held leads on
pub then : {X : Type 0} (N : Type 0) {P Q : X → Type 0} (o : Option X) → MatchOption o N P → ((x : X) → P x → Q x) → MatchOption o N Q
then N None n f = n
then N (Some x) p f = f x p
