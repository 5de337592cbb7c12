-- The darts of the map that got all bends lie in chains.
use Rattle.std.proofs.Common.{ℕ, ◌+◌, ◌<◌, ◌≤◌, List, arith}
use Rattle.faces.specs.Planes.{PlaneModel, darts, vertices}
use Rattle.ortho_rep.specs.declared.turn_strings.Turn.{Turn}
use Rattle.dissect.specs.DartMaps.{DartMap, IsTied, IsMeeting}
use Rattle.dissect.specs.Chains.{AreChains}
use Rattle.dissect.proofs.Chains.{HasChains, split_chains, plain_chains}
use Rattle.dissect.specs.Bare.{IsBare}
use Rattle.dissect.specs.Steps.{angle_of, start_direction, IsBent, straight, turned, AreBent, finished, passed, bent}
use Rattle.dissect.proofs.Pathing.{bent_more}

bent_chains : (v e : ℕ) (w : DartMap) (turns : List Turn) (new : DartMap) → HasChains v w → e < w.darts → IsBent e w turns new → HasChains v new
bent_chains v e w turns new has e_in (straight u) = has
bent_chains v e w turns new has e_in (turned u mid last turn rest subdivide bends) =
    bent_chains v e mid rest last (split_chains v u e (start_direction u e) (angle_of turn) mid has e_in subdivide) (omega (arith, e_in, subdivide.darts)) bends

all_chains : (v : ℕ) (p : PlaneModel) (s : ℕ → List Turn) (k : ℕ) (w new : DartMap) → HasChains v w → darts p ≤ w.darts → AreBent p s k w new → HasChains v new
all_chains v p s k w new has few (finished j u past) = has
all_chains v p s k w new has few (passed j u last back rest) = all_chains v p s (j + 1) u last has few rest
all_chains v p s k w new has few (bent j u mid last j_in less bends rest) =
    all_chains v p s (j + 1) mid last (bent_chains v j u (s j) mid has (omega (arith, j_in, few)) bends)
    (omega (arith, few, bent_more j u (s j) mid bends)) rest

-- the map of a plane that got all bends: between the darts of an edge lie vertices that are not the plane's
pub bends_have_chains : (p : PlaneModel) (a h : ℕ → ℕ) (s : ℕ → List Turn) (w new : DartMap) → IsBare p a h w → IsTied w → IsMeeting w →
    AreBent p s 0 w new → AreChains (vertices p) new
bends_have_chains p a h s w new bare tied meeting all =
    (all_chains (vertices p) p s 0 w new
    (plain_chains (vertices p) w tied meeting.head_in (omega (arith, bare.vertex_count))
    (λ d l. bare.befores d (omega (arith, l, bare.dart_count))))
    (omega (arith, bare.dart_count)) all).chains
