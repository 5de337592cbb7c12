-- More messages of a stage.
use Rattle.std.specs.Prelude.{Result, Ok, Err, OnOk, OnErr}
use Rattle.std.proofs.Common.{◌≡◌, ℕ, List, [], ◌∷◌, ◌++◌, refl, sym, ap, subst, ◌∙◌, append_assoc, append-nil}
use Rattle.std.proofs.lemmas.List.{map-append}
use Rattle.lanes.specs.declared.message.Message.{Message}
use Rattle.lanes.specs.Notes.{About, Note, Item, End, Stop, notes_of_items, notes_of, notes, GoOn}

-- notes without a stop
pub going_both : (xs ys : List Note) → GoOn xs → GoOn ys → GoOn (xs ++ ys)
going_both [] ys on ons = ons
going_both (Item _ ∷ xs) ys on ons = going_both xs ys on ons
going_both (End _ _ ∷ xs) ys on ons = going_both xs ys on ons
going_both (Stop ∷ xs) ys on ons = absurd on

module _ {A : Type 0} where
  pub going_items : (about : A → About) (items : List A) → GoOn (notes_of_items about items)
  going_items about [] = tt
  going_items about (item ∷ items) = going_items about items

  -- the notes of one item more
  pub items-more : (about : A → About) (items : List A) (item : A) → notes_of_items about (items ++ item ∷ []) ≡ notes_of_items about items ++ Item (about item) ∷ []
  items-more about items item = let f : A → Note = λ x. Item (about x) in map-append f items (item ∷ [])

module _ {A M : Type 0} where
  pub notes-append : (about : A → About) (xs ys : List (Message A M)) → notes about (xs ++ ys) ≡ notes about xs ++ notes about ys
  notes-append about [] ys = refl
  notes-append about (x ∷ xs) ys = ap (λ l. notes_of about x ++ l) (notes-append about xs ys) ∙ sym (append_assoc (notes_of about x) (notes about xs) (notes about ys))

  -- the notes of one message more
  pub notes-after : (about : A → About) (before after : List (Message A M)) (m : Message A M) → after ≡ before ++ m ∷ [] → notes about after ≡ notes about before ++ notes_of about m
  notes-after about before after m more =
      ap (notes about) more ∙ notes-append about before (m ∷ []) ∙ ap (λ l. notes about before ++ l) (append-nil (notes_of about m))

  -- a message was taken, and its content was told
  pub passed_on : (about : A → About) (took took' : List (Message A M)) (told told' : List Note) (x : Message A M) (ns : List Note)
      → told ≡ notes about took → took' ≡ took ++ x ∷ [] → told' ≡ told ++ ns → ns ≡ notes_of about x → told' ≡ notes about took'
  passed_on about took took' told told' x ns same more_taken more_told is =
      more_told ∙ ap (λ l. l ++ ns) same ∙ ap (λ l. notes about took ++ l) is ∙ sym (notes-after about took took' x more_taken)

module _ {A B : Type 0} where
  -- the work was done on one record more, which waits or was given
  pub worked_more : (about : A → About) (next_about : B → About) (start gave gave' : List Note) (waited before after : List B) (done : List A) (item : A) (next : B)
      → before ≡ waited → next_about next ≡ about item → gave ++ notes_of_items next_about waited ≡ start ++ notes_of_items about done
      → gave' ++ notes_of_items next_about after ≡ gave ++ notes_of_items next_about before ++ Item (next_about next) ∷ []
      → gave' ++ notes_of_items next_about after ≡ start ++ notes_of_items about (done ++ item ∷ [])
  worked_more about next_about start gave gave' waited before after done item next is same was now =
      now
      ∙ ap (λ l. gave ++ notes_of_items next_about l ++ Item (next_about next) ∷ []) is
      ∙ ap (λ l. l ++ Item (next_about next) ∷ []) was
      ∙ append_assoc start (notes_of_items about done) (Item (next_about next) ∷ [])
      ∙ ap (λ a. start ++ (notes_of_items about done ++ Item a ∷ [])) same
      ∙ ap (λ l. start ++ l) (sym (items-more about done item))

-- what is told goes on where what is added does
pub going_told : (before after more : List Note) → after ≡ before ++ more → GoOn more → GoOn before → GoOn after
going_told before after more is goes on = subst GoOn (sym is) (going_both before more on goes)

-- so also if a message may have been refused
pub going_anyhow : {R E : Type 0} (result : Result R E) (before after more : List Note) → OnOk result (after ≡ before ++ more) → OnErr result (after ≡ before) → GoOn more → GoOn before → GoOn after
going_anyhow (Ok _) before after more is same goes on = going_told before after more is goes on
going_anyhow (Err _) before after more is same goes on = subst GoOn (sym same) on
