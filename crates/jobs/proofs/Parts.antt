-- A table of edges as a field of a struct, and a row of edges in two parts. Assumes `Logic`.
use mathlib.Core.Path.{sym, subst, ◌∙◌}
use Prim.Native.Nat.{ℕ, ◌+◌}
use mathlib.Core.List.{List, [], ◌∷◌, ◌++◌, map}
use lib.ListN.{length, length-map}
use seplogic.Ra.Ura.{Ura}
use base.Fraction.{full_share}
use mir.Val.{Val}
use base.Logic.{ent, sep}
use base.Fml.{Fml}
use types.Logic.{Logic, sem}
use types.Kit.{‵, ◌⊛◌, ◌$◌, ◌∵◌, !, qed, move, drop, use1, use2, split, fsplit, fjoin, done}
use denote.Shadow.{shadow}
use denote.Laws.{Is}
use denote.Memory.{mem}
use denote.Array.{Array, each, array_val}
use denote.Index.{row, place}
use denote.Steps.{nothing}
use Rattle.axis.specs.declared.edge.Edge.{Edge}
use Rattle.axis.specs.contracts.edge.Edge as T
use Rattle.axis.proofs.edge.Edge.TheLaws as T'
use Rattle.lowercase_m_list.proofs.Arrays.{Edges, arr, field-val}

-- what an array says of its edges, it says of their tuples in a field
field-each : (xs : List Edge) (us : List Val) → shadow (each Edge (T.the_row).own_val xs us)
    → shadow (each (T.the_field).row.Denot (T.the_field).row.own_val (map (T.the_field).into xs) us)
field-each [] [] s = s
field-each [] (u ∷ us) s = s
field-each (x ∷ xs) [] s = s
field-each (x ∷ xs) (u ∷ us) s = (s.0, field-each xs us s.1)

pub to-field : (n : ℕ) (xs : List Edge) → Is (Edges n) xs (arr xs) → Is (Array (T.the_field).row n) (map (T.the_field).into xs)
    (array_val (map (T'.the_field_laws).val (map (T.the_field).into xs)) ∷ [])
to-field n xs p = subst (λ (v : Val). Is (Array (T.the_field).row n) (map (T.the_field).into xs) (v ∷ [])) (sym (field-val xs))
    (p.0, ((p.1.0.0, length-map xs (T.the_field).into ∙ p.1.0.1), field-each xs p.0 p.1.1))

-- ---- a row in two parts
module _ {M : Type 1} {𝓤 : Ura M} (𝓛 : Logic 𝓤) where
  abbrev edges : List Edge → ℕ → ℕ → Fml
  edges xs b o = row T.the_row full_share xs b o

  abbrev behind : List Edge → ℕ → ℕ
  behind xs o = place (mem T.the_row).size o (length xs)

  pub row_apart : (xs ys : List Edge) (b o : ℕ) → ent 𝓤 (sem 𝓛 (edges (xs ++ ys) b o))
      (sep 𝓤 (sem 𝓛 (edges xs b o)) (sem 𝓛 (edges ys b (behind xs o))))
  row_apart [] ys b o = qed 𝓛 (‵ (edges ys b o) ∷ []) ∵ nothing ! $ done !
  row_apart (x ∷ xs) ys b o =
      qed 𝓛 (‵ (edges (x ∷ xs ++ ys) b o) ∷ []) ∵ fsplit ! $ move ! (1 ∷ []) $
      use1 𝓛 (‵ (edges xs b (o + (mem T.the_row).size)) ⊛ ‵ (edges ys b (behind (x ∷ xs) o))) (row_apart xs ys b (o + (mem T.the_row).size)) $ split ! $ move !
      (2 ∷ 0 ∷ []) $ fjoin ! $ done !

  pub row-whole : (xs ys : List Edge) (b o : ℕ) → ent 𝓤 (sep 𝓤 (sem 𝓛 (edges xs b o)) (sem 𝓛 (edges ys b (behind xs o))))
      (sem 𝓛 (edges (xs ++ ys) b o))
  row-whole [] ys b o = qed 𝓛 (‵ (edges [] b o) ∷ ‵ (edges ys b o) ∷ []) ∵ drop ! $ done !
  row-whole (x ∷ xs) ys b o =
      qed 𝓛 (‵ (edges (x ∷ xs) b o) ∷ ‵ (edges ys b (behind (x ∷ xs) o)) ∷ []) ∵ fsplit ! $ move ! (1 ∷ 2 ∷ []) $
      use2 𝓛 (‵ (edges (xs ++ ys) b (o + (mem T.the_row).size))) (row-whole xs ys b (o + (mem T.the_row).size)) $ move ! (1 ∷ 0 ∷ []) $ done !
