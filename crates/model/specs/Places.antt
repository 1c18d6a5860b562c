-- Numbered places, each empty or filled, and the few functions on lists that the definitions use.
-- Assumes nothing.
use Rattle.std.specs.Prelude.{Bool, true, false, ◌&&◌, ◌||◌, List, [], ◌∷◌, ℕ, zero, suc, eqb}
use Rattle.std.specs.List.{cons_option, filter_map, list_all, list_any, slice_get}
use Rattle.std.specs.Option.{is_some, option_and_then, option_map}
use Rattle.std.specs.Prelude.{Option, None, Some}

-- ---- what may be absent
module _ {A : Type 0} where
  abbrev pub when : Bool → A → Option A
  when true a = Some a
  when false a = None

  abbrev pub present : Option A → Bool
  present o = is_some o

  -- something is there, and p of it
  abbrev pub sure : (A → Bool) → Option A → Bool
  sure p None = false
  sure p (Some a) = p a

  abbrev pub or_else : Option A → A → A
  or_else None d = d
  or_else (Some a) d = a

abbrev pub and_then : {A B : Type 0} → Option A → (A → Option B) → Option B
and_then o f = option_and_then f o

abbrev pub map_o : {A B : Type 0} → (A → B) → Option A → Option B
map_o f o = option_map f o

-- ---- lists
module _ {A : Type 0} where
  abbrev pub nth : ℕ → List A → Option A
  nth n l = slice_get l n

  -- the element at number n is replaced by f of it
  abbrev pub alter : ℕ → (A → A) → List A → List A
  alter n f [] = []
  alter zero f (a ∷ l) = f a ∷ l
  alter (suc n) f (a ∷ l) = a ∷ alter n f l

  abbrev pub any : (A → Bool) → List A → Bool
  any p l = list_any p l

  abbrev pub all : (A → Bool) → List A → Bool
  all p l = list_all p l

  -- two elements at different places are alike
  abbrev pub twice : (A → A → Bool) → List A → Bool
  twice alike [] = false
  twice alike (a ∷ l) = any (alike a) l || twice alike l

  abbrev pub push : Option A → List A → List A
  push o l = cons_option o l

-- the elements that f keeps, as it leaves them
abbrev pub gather : {A B : Type 0} → (A → Option B) → List A → List B
gather f l = filter_map f l

abbrev pub has : ℕ → List ℕ → Bool
has n l = any (eqb n) l

-- all of these tests pass
abbrev pub conj : List Bool → Bool
conj [] = true
conj (b ∷ bs) = b && conj bs

-- one more where the test passes
abbrev pub tick : Bool → ℕ → ℕ
tick true k = suc k
tick false k = k

-- ---- places
abbrev pub Places : Type 0 → Type 0
Places A = List (Option A)

module _ {A : Type 0} where
  -- the part at a number, if it is there
  abbrev pub at : ℕ → Places A → Option A
  at n [] = None
  at zero (o ∷ l) = o
  at (suc n) (o ∷ l) = at n l

  -- each part that is there passes
  abbrev pub all_in : (A → Bool) → Places A → Bool
  all_in p [] = true
  all_in p (None ∷ l) = all_in p l
  all_in p (Some a ∷ l) = p a && all_in p l

  -- n places, all empty
  abbrev pub nones : ℕ → Places A
  nones zero = []
  nones (suc n) = None ∷ nones n

  -- all places emptied
  abbrev pub emptied : Places A → Places A
  emptied [] = []
  emptied (o ∷ l) = None ∷ emptied l

  -- the parts that are there
  abbrev pub filled : Places A → List A
  filled [] = []
  filled (None ∷ l) = filled l
  filled (Some a ∷ l) = a ∷ filled l

-- each part is replaced by f of it, perhaps by nothing
abbrev pub on_places : {A B : Type 0} → (A → Option B) → Places A → Places B
on_places f [] = []
on_places f (o ∷ l) = and_then o f ∷ on_places f l
