-- What is left in the lent places, by what is handed out.
use mathlib.Core.Path.{◌≡◌, sym, ap, ◌∙◌}
use mathlib.Core.List.{List}
use Prim.Native.Nat.{ℕ}
use lib.Ieee.{Float}
use lib.IntN.{ℤ}
use Rattle.path_places.specs.Places.{origin}
use Rattle.path_places.specs.declared.PixelPoint.{PixelPoint}
use Rattle.path_trip.specs.declared.step.PathStep.{PathStep}
use Rattle.path_trip.specs.Numbers.{kind_of, first_of, second_of}
use Rattle.path.specs.declared.hand.Cursor.{Cursor}
use Rattle.path.specs.Answer.{Handed, Refused, Finished, Step}
use Rattle.path.specs.Handing.{HandsStep}
use Rattle.path.specs.Lending.{four, answer_of, kind_after, places_after, next_after, StepLent}

module _ (xs ys : List ℤ) (marks es : List ℕ) (k : ℕ) (g : Handed) (e : HandsStep xs ys marks es k g) (kind : ℕ) (places : List Float) (next : ℕ) where
  made : (f : Handed) → g ≡ f → StepLent xs ys marks es k kind places next (answer_of f) (kind_after f kind) (places_after f places) (next_after f k next)
  made f t =
      let q = sym t ∙ e in
      record {
        answer = ap answer_of q;
        kind_is = ap (λ (x : Handed). kind_after x kind) q;
        places_are = ap (λ (x : Handed). places_after x places) q;
        next_is = ap (λ (x : Handed). next_after x k next) q;
      }

  pub refused : (n : ℕ) → g ≡ Refused n → StepLent xs ys marks es k kind places next n kind places next
  refused n t = made (Refused n) t

  pub finished : (p q : PixelPoint) (l : List Float) → g ≡ Finished → p ≡ origin → q ≡ origin → l ≡ four p q
      → StepLent xs ys marks es k kind places next 0 0 l k
  finished p q l t b f w =
      let m = made Finished t in
      record { answer = m.answer; kind_is = m.kind_is; places_are = w ∙ (λ i. four (b i) (f i)) ∙ m.places_are; next_is = m.next_is }

  pub stepped : (s : PathStep) (c : Cursor) (n : ℕ) (p q : PixelPoint) (l : List Float) → g ≡ Step s c → n ≡ kind_of s → p ≡ first_of s → q ≡ second_of s
      → l ≡ four p q
      → StepLent xs ys marks es k kind places next 0 n l c.at
  stepped s c n p q l t a b f w =
      let m = made (Step s c) t in
      record { answer = m.answer; kind_is = a ∙ m.kind_is; places_are = w ∙ (λ i. four (b i) (f i)) ∙ m.places_are; next_is = m.next_is }
