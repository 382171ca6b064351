-- A local array of n edges, as a row of edges in memory, and back; and as a field of a struct. Assumes `Logic`.
use mathlib.Core.Path.{◌≡◌, refl, sym, ap, subst, ◌∙◌}
use Prim.Native.Nat.{ℕ}
use mathlib.Core.List.{List, [], ◌∷◌, map}
use mathlib.Core.Bool.{Bool, true, false}
use lib.Dec.{T as Holds}
use lib.ListN.{length, length-map}
use seplogic.Ra.Ura.{Ura}
use base.Fraction.{full_share}
use mir.Syntax.{Ty, ty_array}
use mir.Val.{Val, WT, has_ty}
use base.Logic.{ent, sep}
use base.Fml.{fsep, fat}
use types.Logic.{Logic, sem}
use types.Kit.{‵, ◌$◌, ◌∵◌, !, qed, by, move, drop, use1, rewrite, fsplit, fjoin, fpick, fpack, feq_i, frame, done}
use types.Share.{arr_parts}
use denote.RattleType.{RattleType}
use denote.Shadow.{shadow}
use denote.Laws.{Is, Makes, shows}
use denote.Memory.{cell_at, part_at, part_of, shares}
use denote.Array.{Array, each, array_val, array_vals, Array-Tells, Array-Lawful, Array-Makes}
use denote.ArrayMemory.{Array-apart, Array-whole}
use denote.Index.{row}
use denote.Steps.{only, owned, peeks}
use denote.Struct.Laws as LL
use Rattle.axis.specs.declared.edge.Edge.{Edge}
use Rattle.axis.specs.contracts.edge.Edge as T
use Rattle.axis.proofs.edge.Edge.TheLaws as T'

-- ---- truth values
pub holds : (t : Bool) → Holds t → t ≡ true
holds true _ = refl
holds false a = absurd a

pub fails : (t : Bool) → (Holds t → ⊥) → t ≡ false
fails true f = absurd (f tt)
fails false _ = refl

-- ---- one edge: its machine value
abbrev pub vals : Edge → List Val
vals = LL.vals T.the_type T'.the_laws

-- the bytes that one takes, as the MIR has them
abbrev pub edge_bytes : ℕ
edge_bytes = 44

-- ---- n edges: the array's type, its MIR type and its machine value
abbrev pub Edges : ℕ → RattleType
Edges n = Array T.the_row n

abbrev pub array : ℕ → Ty
array n = ty_array T'.mir n

abbrev pub arr : List Edge → List Val
arr = array_vals vals

pub tells : (n : ℕ) (xs : List Edge) (vs : List Val) → Is (Edges n) xs vs → vs ≡ arr xs
tells = Array-Tells T.the_row vals (LL.tells T.the_type T'.the_laws)

-- ---- n edges that are a field of a struct: each stands there as the tuple of its fields
each-field : (xs : List Edge) (us : List Val) → shadow (each (T.the_field).row.Denot (T.the_field).row.own_val (map (T.the_field).into xs) us)
    → shadow (each Edge (T.the_row).own_val xs us)
each-field [] [] s = s
each-field [] (u ∷ us) s = s
each-field (x ∷ xs) [] s = s
each-field (x ∷ xs) (u ∷ us) s = (s.0, each-field xs us s.1)

vals-field : (xs : List Edge) → map (T'.the_field_laws).val (map (T.the_field).into xs) ≡ map (LL.val T.the_type T'.the_laws) xs
vals-field [] = refl
vals-field (x ∷ xs) = ap (λ (us : List Val). LL.val T.the_type T'.the_laws x ∷ us) (vals-field xs)

-- the array's machine value is the same
pub field-val : (xs : List Edge) → array_val (map (T'.the_field_laws).val (map (T.the_field).into xs)) ≡ only (arr xs)
field-val xs = ap array_val (vals-field xs)

pub of_field : (n : ℕ) (xs : List Edge) → Is (Array (T.the_field).row n) (map (T.the_field).into xs)
    (array_val (map (T'.the_field_laws).val (map (T.the_field).into xs)) ∷ [])
    → Is (Edges n) xs (arr xs)
of_field n xs p =
    subst (λ (v : Val). Is (Edges n) xs (v ∷ [])) (field-val xs)
    (p.0, ((p.1.0.0, sym (length-map xs (T.the_field).into) ∙ p.1.0.1), each-field xs p.0 p.1.1))

module _ {M : Type 1} {𝓤 : Ura M} (𝓛 : Logic 𝓤) (n : ℕ) where
  pub typed : (xs : List Edge) (v : Val) → Is (Edges n) xs (v ∷ []) → Holds (has_ty (array n) v) × WT v
  typed xs v g = ((Array-Lawful 𝓛 T.the_row (LL.lawful T.the_type T'.the_laws 𝓛) n).typed xs (v ∷ []) g).0

  pub makes : Makes 𝓛 (Edges n) (Is (Edges n))
  makes = Array-Makes 𝓛 T.the_row (LL.makes T.the_type T'.the_plain 𝓛) n

  -- a local array, as a row
  pub as_row : (xs : List Edge) (b : ℕ) → Is (Edges n) xs (arr xs)
      → ent 𝓤 (sem 𝓛 (fat full_share (array n) b 0 (only (arr xs)))) (sem 𝓛 (row T.the_row full_share xs b 0))
  unfolding part_of
  as_row xs b g =
      qed 𝓛 (‵ (fat full_share (array n) b 0 (only (arr xs))) ∷ []) ∵ use1 𝓛 (‵ (cell_at full_share (Edges n).mir (arr xs) b 0))
      (𝓛.laws.at_raw full_share (array n) b 0 (only (arr xs))) $
      owned ! (Edges n) (Is (Edges n)) makes xs (arr xs) g $ move ! (1 ∷ 0 ∷ []) $ fjoin ! $
      fpack ! (List Val) (λ vs. fsep (cell_at full_share (Edges n).mir vs b 0) ((Edges n).own_val xs vs)) (arr xs) $
      use1 𝓛 (‵ ((arr_parts (shares T.the_row) n).part full_share xs b 0)) (Array-apart 𝓛 T.the_row full_share tt n xs b 0) $ fsplit ! $ drop ! $ done !

  -- and a row, as a local array
  pub as-array : (xs : List Edge) (b : ℕ) → length xs ≡ n → ent 𝓤 (sem 𝓛 (row T.the_row full_share xs b 0))
      (sep 𝓤 (sem 𝓛 ((Edges n).own_val xs (arr xs))) (sem 𝓛 (fat full_share (array n) b 0 (only (arr xs)))))
  unfolding part_of
  as-array xs b l =
      qed 𝓛 (‵ (row T.the_row full_share xs b 0) ∷ []) ∵ feq_i ! ℕ (length xs) n l $ fjoin ! $
      use1 𝓛 (‵ (part_at (Edges n) full_share xs b 0)) (Array-whole 𝓛 T.the_row full_share n xs b 0) $ fpick ! (λ vs. fsplit ! $ move ! (1 ∷ []) $
      peeks ! (Edges n) (Is (Edges n)) (shows 𝓛 (Edges n)) xs vs (λ p. rewrite ! 0 (λ (us : List Val). ‵ ((Edges n).own_val xs us)) (tells n xs vs p) refl $
      rewrite ! 1 (λ (us : List Val). ‵ (cell_at full_share (Edges n).mir us b 0)) (tells n xs vs p) refl $
      frame ! $ by ! (𝓛.laws.raw_at full_share (array n) b 0 (only (arr xs)))))
