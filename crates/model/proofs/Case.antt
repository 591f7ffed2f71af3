-- A table of cases under one statement: what a definition computes, and what the specification says that it is.
use mathlib.Core.List.{List, [], ◌∷◌}
use mathlib.Core.Path.{◌≡◌}

pub data Case : Type 1 where
  ◌gives◌ : {A : Type 0} → A → A → Case

infix 20 ◌gives◌
abbrev pub Agrees : Case → Type 0
Agrees (x gives y) = x ≡ y

-- every case of the table holds
abbrev pub All : List {1} Case → Type 0
All [] = Unit {0}
All (c ∷ cs) = Agrees c × All cs
