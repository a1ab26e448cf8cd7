-- Proves that the text of a trace, written item by item, equals the text of the run of its history: a trace
-- has a head, and then only calls. By induction over the items.
use Rattle.std.proofs.Common.{◌≡◌, ℕ, List, [], ◌∷◌, ◌++◌, length, append-nil, Bool, refl, ◌∙◌, ap, subst}
use Rattle.std.specs.Prelude.{Option, Some, None, Result, Ok, Err}
use Rattle.wf_trace.specs.declared.fault.FaultKind.{FaultKind}
use Rattle.wf_trace.specs.declared.cut.Piece.{Piece}
use Rattle.wf_trace.specs.declared.cut.Piece.TheVariants as piece
use Rattle.wf_trace.specs.declared.meaning.Meaning.{Meaning}
use Rattle.wf_trace.specs.declared.meaning.Meaning.TheVariants as meaning
use Rattle.wf_trace.specs.declared.meaning.Place.{Place}
use Rattle.wf_trace.specs.declared.reader.Item.{Item}
use Rattle.wf_trace.specs.declared.reader.Item.TheVariants.{Head, Entry, Finish, Bad}
use Rattle.wf_trace.specs.Pieces.{Numbered, pieces}
use Rattle.wf_trace.specs.Words.{words}
use Rattle.wf_trace.specs.Meanings.{meant}
use Rattle.wf_trace.specs.Reading.{Reading, reading, stopped}
use Rattle.wf_trace.specs.Reader.{next_place, said, read_lines}
use Rattle.wf_trace.proofs.PlaceLaws.{Sorted, sorted, reading_placed}
use Rattle.wf_def_world.specs.World.{World, opening}
use Rattle.wf_def_world.specs.Step.{Outcome, step}
use Rattle.wf_def_world.specs.Run.{world_after}
use Rattle.wf_trace_laws.specs.Histories.{settings_among, history_among}
use Rattle.wf_trace_laws.specs.Tellings.{Telling, behind_item, told_item, told_calls, begun, world_behind, told_so_far, told_whole}

-- only calls, and a head before calls
abbrev pub Calls : List Item → Type 0
Calls [] = Unit {0}
Calls (Entry caller note ∷ items) = Calls items
Calls (Head config ∷ items) = ⊥
Calls (Finish ∷ items) = ⊥
Calls (Bad fault ∷ items) = ⊥

abbrev pub Shaped : List Item → Type 0
Shaped [] = Unit {0}
Shaped (Head config ∷ items) = Calls items
Shaped (Entry caller note ∷ items) = ⊥
Shaped (Finish ∷ items) = ⊥
Shaped (Bad fault ∷ items) = ⊥

abbrev ShapedIn : Option Place → List Item → Type 0
ShapedIn None items = Shaped items
ShapedIn (Some place) items = Calls items

no_items : (place : Option Place) → ShapedIn place []
no_items None = tt
no_items (Some place) = tt

shaped_stop : (place : Option Place) (end : Option Piece) → ShapedIn place (stopped place end).items
shaped_stop place None = no_items place
shaped_stop place (Some (piece.Text line)) = no_items place
shaped_stop place (Some (piece.Ended line)) = no_items place
shaped_stop place (Some (piece.Bad fault)) = no_items place

shaped_said : (m : Result Meaning FaultKind) (place : Option Place) (line : ℕ)
    (others : Option Place → Reading) (ws : List (List ℕ)) → Sorted m place ws →
    ((next : Option Place) → ShapedIn next (others next).items) →
    ShapedIn place (said m place line others).items
shaped_said (Ok (meaning.Head config)) None line others ws sort next =
    next (Some (record { limit = config.calls; count = 0 }))
shaped_said (Ok (meaning.Head config)) (Some place) line others ws sort next =
    absurd (let none = sort.0 in cc)
shaped_said (Ok (meaning.Entry caller note)) None line others ws sort next = absurd (let some = sort.0 in cc)
shaped_said (Ok (meaning.Entry caller note)) (Some place) line others ws sort next =
    next (next_place (Some place))
shaped_said (Ok meaning.Finish) place line others ws sort next = no_items place
shaped_said (Err kind) place line others ws sort next = no_items place

shaped_lines : (lines : List Numbered) (end : Option Piece) (place : Option Place) →
    ShapedIn place (read_lines lines end place).items
shaped_lines [] end place = shaped_stop place end
shaped_lines (line ∷ lines) end place =
    shaped_said (meant place (words line.octets)) place line.line (λ next. read_lines lines end next)
    (words line.octets) (sorted place (words line.octets)) (λ next. shaped_lines lines end next)

pub reading_shaped : (closed : Bool) (octets : List ℕ) → Shaped (reading closed octets).items
reading_shaped closed octets =
    subst (λ (r : Reading). Shaped r.items) (reading_placed closed octets)
    (shaped_lines (pieces closed octets).lines (pieces closed octets).ending None)

-- the text of items, and the world after them
abbrev pub told_items : Telling → Option World → List Item → List ℕ
told_items t w [] = []
told_items t w (item ∷ items) = told_item t w item ++ told_items t (behind_item w item) items

abbrev pub behind_items : Option World → List Item → Option World
behind_items w [] = w
behind_items w (item ∷ items) = behind_items (behind_item w item) items

-- the first octets, and those that the items add
abbrev pub told_behind : Telling → List Item → List ℕ
told_behind t items = t.front ++ told_items t None items

abbrev pub told_text : Telling → Reading → List ℕ
told_text t r = told_behind t r.items ++ t.last (behind_items None r.items)
    (length (history_among r.items)) r.ending

calls_told : (t : Telling) (w : World) (items : List Item) → Calls items →
    told_items t (Some w) items ≡ told_calls t w (history_among items)
calls_told t w [] calls = refl
calls_told t w (Entry caller note ∷ items) calls = let o : Outcome = step w note in
    ap (λ l. t.call w note ++ l) (calls_told t o.world items calls)
calls_told t w (Head config ∷ items) calls = absurd calls
calls_told t w (Finish ∷ items) calls = absurd calls
calls_told t w (Bad fault ∷ items) calls = absurd calls

calls_behind : (w : World) (items : List Item) → Calls items →
    behind_items (Some w) items ≡ Some (world_after w (history_among items))
unfolding world_after
calls_behind w [] calls = refl
calls_behind w (Entry caller note ∷ items) calls = let o : Outcome = step w note in
    calls_behind o.world items calls
calls_behind w (Head config ∷ items) calls = absurd calls
calls_behind w (Finish ∷ items) calls = absurd calls
calls_behind w (Bad fault ∷ items) calls = absurd calls

shaped_told : (t : Telling) (items : List Item) → Shaped items →
    told_behind t items ≡ begun t (settings_among items) (history_among items)
shaped_told t [] shaped = append-nil t.front
shaped_told t (Head config ∷ items) shaped = ap (λ l. t.front ++ l)
    (calls_told t (opening config) items shaped)
shaped_told t (Entry caller note ∷ items) shaped = absurd shaped
shaped_told t (Finish ∷ items) shaped = absurd shaped
shaped_told t (Bad fault ∷ items) shaped = absurd shaped

shaped_behind : (items : List Item) → Shaped items →
    behind_items None items ≡ world_behind (settings_among items) (history_among items)
shaped_behind [] shaped = refl
shaped_behind (Head config ∷ items) shaped = calls_behind (opening config) items shaped
shaped_behind (Entry caller note ∷ items) shaped = absurd shaped
shaped_behind (Finish ∷ items) shaped = absurd shaped
shaped_behind (Bad fault ∷ items) shaped = absurd shaped

pub so_far_told : (t : Telling) (closed : Bool) (octets : List ℕ) →
    told_behind t (reading closed octets).items ≡ told_so_far t (reading closed octets)
so_far_told t closed octets = shaped_told t (reading closed octets).items (reading_shaped closed octets)

whole_of : (t : Telling) (r : Reading) → Shaped r.items → told_text t r ≡ told_whole t r
whole_of t r shaped =
    ap (λ l. l ++ t.last (behind_items None r.items) (length (history_among r.items)) r.ending)
    (shaped_told t r.items shaped)
    ∙ ap (λ w. told_so_far t r ++ t.last w (length (history_among r.items)) r.ending)
    (shaped_behind r.items shaped)

pub whole_told : (t : Telling) (closed : Bool) (octets : List ℕ) →
    told_text t (reading closed octets) ≡ told_whole t (reading closed octets)
whole_told t closed octets = whole_of t (reading closed octets) (reading_shaped closed octets)
