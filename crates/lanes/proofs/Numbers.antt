-- Records that are kept with their numbers, some and then others.
use Rattle.std.proofs.Common.{◌≡◌, ℕ, ◌+◌, List, [], ◌∷◌, ◌++◌, length, map, sym, ap, ◌∙◌, subst, append_assoc}
use Rattle.common.specs.declared.parameters.Choice.{Choice}
use Rattle.lanes.specs.Notes.{Note, numbered, Item}
use Rattle.lanes.specs.Numbering.{AreOfSame, numbered-append}

-- what was kept, after one more list of records
kept_then : (choice : Choice) (start before after : List Note) (file first next : ℕ) (records others : List (List ℕ)) → next ≡ first + length records
    → before ≡ start ++ map Item (numbered choice file first records) → after ≡ before ++ map Item (numbered choice file next others)
    → after ≡ start ++ map Item (numbered choice file first (records ++ others))
kept_then choice start before after file first next records others is was now =
    now
    ∙ ap (λ l. l ++ map Item (numbered choice file next others)) was
    ∙ append_assoc start (map Item (numbered choice file first records)) (map Item (numbered choice file next others))
    ∙ ap (λ n. start ++ (map Item (numbered choice file first records) ++ map Item (numbered choice file n others))) is
    ∙ ap (λ l. start ++ l) (sym (numbered-append choice file first records others))

-- after one more record
pub kept_next : (choice : Choice) (start before after : List Note) (file first next : ℕ) (records : List (List ℕ)) (last : List ℕ) → next ≡ first + length records
    → before ≡ start ++ map Item (numbered choice file first records) → after ≡ before ++ Item (record { file = file; ordinal = next; bytes = last; choice = choice }) ∷ []
    → after ≡ start ++ map Item (numbered choice file first (records ++ last ∷ []))
kept_next choice start before after file first next records last is was now = kept_then choice start before after file first next records (last ∷ []) is was now

-- one more record of the same file, with the same choice
pub kept_as : (choice choice' : Choice) (file file' ordinal : ℕ) (bytes : List ℕ) (before after : List Note) → AreOfSame choice file choice' file'
    → after ≡ before ++ Item (record { file = file'; ordinal = ordinal; bytes = bytes; choice = choice' }) ∷ []
    → after ≡ before ++ Item (record { file = file; ordinal = ordinal; bytes = bytes; choice = choice }) ∷ []
kept_as choice choice' file file' ordinal bytes before after same more =
    subst (λ f. after ≡ before ++ Item (record { file = f; ordinal = ordinal; bytes = bytes; choice = choice }) ∷ []) same.1
    (subst (λ c. after ≡ before ++ Item (record { file = file'; ordinal = ordinal; bytes = bytes; choice = c }) ∷ []) same.0 more)
