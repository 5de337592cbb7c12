-- What was added to a sink where the text was left off.
use Rattle.std.proofs.Common.{◌≡◌, ℕ, List, ◌++◌, Option, refl, ap, ◌∙◌, append_assoc}
use Rattle.streams.specs.Sink.{AppendsPrefix, IsInTransit}
use Rattle.file_order.specs.Writing.{IsPartlyAdded}

-- one text begins with the other
abbrev pub Longer : List ℕ → List ℕ → Type 0
Longer whole text = (more : List ℕ) × (whole ≡ text ++ more)

pub appends_longer : (start now : Option (List ℕ)) (whole text : List ℕ) → Longer whole text → AppendsPrefix start now text → AppendsPrefix start now whole
appends_longer start now whole text longer added =
    (added.0, added.1 ++ longer.0, longer.1 ∙ ap (λ l. l ++ longer.0) added.2 ∙ append_assoc added.0 added.1 longer.0, added.3)

-- what is on its way was added up to what waits
pub way_front : (start now : Option (List ℕ)) (waiting text : List ℕ) → IsInTransit start now waiting text → AppendsPrefix start now text
way_front start now waiting text way = (way.sent, waiting, way.split, way.added)

-- whatever more was to go on its way, where nothing was added
pub partial_here : (now : Option (List ℕ)) (waiting more : List ℕ) → IsPartlyAdded now waiting now more
partial_here now waiting more start text way = appends_longer start now (text ++ more) text (more, refl) (way_front start now waiting text way)
