-- Equations by the arguments of a function: what is known of r by these is known with each replaced by an equal one.
use mathlib.Core.Path.{◌≡◌, ◌∙◌}

pub by₂ : {A B R : Type 0} (f : A → B → R) {r : R} {a a' : A} {b b' : B} → r ≡ f a b → a ≡ a' → b ≡ b' → r ≡ f a' b'
by₂ f e p q = e ∙ λ i. f (p i) (q i)

pub by₃ : {A B C R : Type 0} (f : A → B → C → R) {r : R} {a a' : A} {b b' : B} {c c' : C} → r ≡ f a b c → a ≡ a' → b ≡ b' → c ≡ c' → r ≡ f a' b' c'
by₃ f e p q s = e ∙ λ i. f (p i) (q i) (s i)

pub by₄ : {A B C D R : Type 0} (f : A → B → C → D → R) {r : R} {a a' : A} {b b' : B} {c c' : C} {d d' : D} → r ≡ f a b c d → a ≡ a' → b ≡ b' → c ≡ c' → d ≡ d'
    → r ≡ f a' b' c' d'
by₄ f e p q s t = e ∙ λ i. f (p i) (q i) (s i) (t i)

pub by₅ : {A B C D E R : Type 0} (f : A → B → C → D → E → R) {r : R} {a a' : A} {b b' : B} {c c' : C} {d d' : D} {x x' : E}
    → r ≡ f a b c d x → a ≡ a' → b ≡ b' → c ≡ c' → d ≡ d' → x ≡ x' → r ≡ f a' b' c' d' x'
by₅ f e p q s t u = e ∙ λ i. f (p i) (q i) (s i) (t i) (u i)
