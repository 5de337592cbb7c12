-- What is kept of a file's records as they are read.
use Rattle.std.proofs.Common.{◌≡◌, ℕ, ◌+◌, List, [], ◌∷◌, ◌++◌, length, map, refl, sym, ap, ◌∙◌, subst, append_assoc, append-nil, arith}
use Rattle.common.specs.declared.parameters.Choice.{Choice}
use Rattle.streams.specs.Placing.{EachAt}
use Rattle.lanes.specs.Notes.{Note, numbered, Item}

-- these records of this file were kept in order, numbered from `first` on, after what was kept before
abbrev pub KeepsRecords : Choice → ℕ → ℕ → List (List ℕ) → List Note → List Note → Type 0
KeepsRecords choice file first records before after = after ≡ before ++ map Item (numbered choice file first records)

-- the choice and the file are those of before
abbrev pub AreOfSame : Choice → ℕ → Choice → ℕ → Type 0
AreOfSame choice file choice' file' = (choice' ≡ choice) × (file' ≡ file)

pub same_itself : (choice : Choice) (file : ℕ) → AreOfSame choice file choice file
same_itself choice file = (refl, refl)

pub same_on : (choice choice' choice'' : Choice) (file file' file'' : ℕ) → AreOfSame choice file choice' file' → AreOfSame choice' file' choice'' file'' → AreOfSame choice file choice'' file''
same_on choice choice' choice'' file file' file'' p q = (q.0 ∙ p.0, q.1 ∙ p.1)

-- the numbers of the others continue where those of the first end
pub numbered-append : (choice : Choice) (file first : ℕ) (records others : List (List ℕ))
    → map Item (numbered choice file first (records ++ others)) ≡ map Item (numbered choice file first records) ++ map Item (numbered choice file (first + length records) others)
numbered-append choice file first [] others = let same : first ≡ first + 0 = omega arith in ap (λ n. map Item (numbered choice file n others)) same
numbered-append choice file first (bytes ∷ records) others =
    let same : first + 1 + length records ≡ first + length (bytes ∷ records) = omega arith in
    ap (λ l. Item (record { file = file; ordinal = first; bytes = bytes; choice = choice }) ∷ l)
    (numbered-append choice file (first + 1) records others ∙ ap (λ n. map Item (numbered choice file (first + 1) records) ++ map Item (numbered choice file n others)) same)

-- what is accepted in one way is accepted in another
pub accepts_same : (before after : ℕ → ℕ → List ℕ → Type 0) (file file' : ℕ) → file ≡ file' → ((of place : ℕ) (bytes : List ℕ) → before of place bytes → after of place bytes)
    → (first : ℕ) (records : List (List ℕ)) → EachAt (before file) first records → EachAt (after file') first records
accepts_same before after file file' same to first [] each = tt
accepts_same before after file file' same to first (bytes ∷ records) each =
    (subst (λ f. after f first bytes) same (to file first bytes each.0), accepts_same before after file file' same to (first + 1) records each.1)

-- no records are kept by keeping nothing
pub keeps_none : (choice : Choice) (file : ℕ) (before : List Note) → KeepsRecords choice file 0 [] before before
keeps_none choice file before = sym (append-nil before)

-- some records are kept, and then others
pub keeps_on : (choice choice' : Choice) (file file' : ℕ) (records others : List (List ℕ)) (before between after : List Note) → AreOfSame choice file choice' file'
    → KeepsRecords choice file 0 records before between → KeepsRecords choice' file' (length records) others between after
    → KeepsRecords choice file 0 (records ++ others) before after
keeps_on choice choice' file file' records others before between after same kept more =
    subst (λ f. after ≡ between ++ map Item (numbered choice f (length records) others)) same.1 (subst (λ c. after ≡ between ++ map Item (numbered c file' (length records) others)) same.0 more)
    ∙ ap (λ l. l ++ map Item (numbered choice file (length records) others)) kept
    ∙ append_assoc before (map Item (numbered choice file 0 records)) (map Item (numbered choice file (length records) others))
    ∙ (let same_length : length records ≡ 0 + length records = omega arith in ap (λ n. before ++ (map Item (numbered choice file 0 records) ++ map Item (numbered choice file n others))) same_length)
    ∙ ap (λ l. before ++ l) (sym (numbered-append choice file 0 records others))
