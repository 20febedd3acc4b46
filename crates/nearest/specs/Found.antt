-- What is printed of what was found.
use Rattle.std.specs.Prelude.{ℕ, List, ◌∷◌, ◌++◌, ℤ, vec_items, codes, decimal}
use Rattle.std.specs.Fmt.{signed_decimal}
use Rattle.std.specs.List.{flat_map}
use Rattle.codewords.specs.Found.{codeword_text}
use Rattle.nearest.specs.declared.found.Found.{Found}
use Rattle.nearest.specs.declared.found.Found.TheVariants.{Point, Word}
use Rattle.nearest.specs.declared.found.Nearest.{Nearest}

-- each number behind a space
abbrev pub spaced : List ℤ → List ℕ
spaced = flat_map (λ x. 32 ∷ signed_decimal x)

abbrev pub nearest_text : Nearest → List ℕ
nearest_text nearest = codes "point" ++ (spaced (vec_items nearest.point) ++ (codes " distance " ++ decimal nearest.distance))

abbrev pub found_text : Found → List ℕ
found_text (Point nearest) = nearest_text nearest
found_text (Word codeword) = codeword_text codeword
