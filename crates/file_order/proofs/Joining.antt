-- Text in chunks.
use Rattle.std.proofs.Common.{◌≡◌, ℕ, ◌+◌, ◌<◌, List, [], ◌∷◌, ◌++◌, length, take, drop, get_or, Vec, Global, Option, sym, ap, subst, ◌∙◌, append_assoc, append-nil}
use Rattle.std.proofs.lemmas.List.{take_more, take-append-drop}
use Rattle.std.proofs.lemmas.List.Concat.{flat_map-append}
use Rattle.streams.specs.Sink.{AppendsPrefix, IsInTransit}
use Rattle.file_order.specs.Concatenated.{concatenated}
use Rattle.file_order.specs.Writing.{GoesOn, IsPartlyAdded}
use Rattle.file_order.proofs.Prefixes.{appends_longer}

-- one chunk more
pub concatenated_more : (chunks : List (Vec ℕ Global)) (chunk : Vec ℕ Global) → concatenated (chunks ++ chunk ∷ []) ≡ concatenated chunks ++ chunk.items
concatenated_more chunks chunk =
    flat_map-append (λ (p : Vec ℕ Global). p.items) chunks (chunk ∷ []) ∙ ap (λ l. concatenated chunks ++ l) (append-nil chunk.items)

-- one text and then another
pub goes_both : (old mid new : Option (List ℕ)) (waited between waits first next : List ℕ)
    → GoesOn old waited mid between first → GoesOn mid between new waits next → GoesOn old waited new waits (first ++ next)
goes_both old mid new waited between waits first next p q start text way =
    subst (λ l. IsInTransit start new waits l) (append_assoc text first next) (q start (text ++ first) (p start text way))

-- one text, and a beginning of the next
pub goes_breaks : (old mid new : Option (List ℕ)) (waited between first next : List ℕ)
    → GoesOn old waited mid between first → IsPartlyAdded mid between new next → IsPartlyAdded old waited new (first ++ next)
goes_breaks old mid new waited between first next p q start text way =
    subst (AppendsPrefix start new) (append_assoc text first next) (q start (text ++ first) (p start text way))

-- more was to come
pub partial_more : (old new : Option (List ℕ)) (waited text more : List ℕ) → IsPartlyAdded old waited new text → IsPartlyAdded old waited new (text ++ more)
partial_more old new waited text more breaks start before way =
    appends_longer start new (before ++ (text ++ more)) (before ++ text) (more, sym (append_assoc before text more)) (breaks start before way)

-- the chunks up to the next one
pub concatenated_next : (chunks : List (Vec ℕ Global)) (i : ℕ) (chunk : Vec ℕ Global) (text : List ℕ) → i < length chunks → chunk ≡ get_or chunks i chunk → text ≡ chunk.items
    → concatenated (take (i + 1) chunks) ≡ concatenated (take i chunks) ++ text
concatenated_next chunks i chunk text below is says =
    ap concatenated (take_more chunks i chunk below ∙ ap (λ p. take i chunks ++ p ∷ []) (sym is))
    ∙ concatenated_more (take i chunks) chunk ∙ ap (λ l. concatenated (take i chunks) ++ l) (sym says)

-- the chunks up to some place, and those after it
pub concatenated_rest : (chunks : List (Vec ℕ Global)) (i : ℕ) → concatenated (take i chunks) ++ concatenated (drop i chunks) ≡ concatenated chunks
concatenated_rest chunks i =
    sym (flat_map-append (λ (p : Vec ℕ Global). p.items) (take i chunks) (drop i chunks)) ∙ ap concatenated (take-append-drop i chunks)
