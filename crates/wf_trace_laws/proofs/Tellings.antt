-- Proves what each status of a run says: octets were read and written for the items so far, and each way to
-- end adds its last octets or a part of a text.
use Rattle.std.proofs.Common.{inl, inr, ◌+◌, arith, ◌≡◌, ℕ, List, [], ◌∷◌, ◌++◌, length, Bool, true, false, refl, sym, ◌∙◌, ap, subst, append_assoc, append-nil}
use Rattle.std.specs.Prelude.{Option, Some, None, Result, Ok, Err, IsSome, IsOk}
use Rattle.std.specs.Io.KnownBytes.{prepend_known, append_known, IsAtEnd}
use Rattle.wf_io.specs.declared.source.Failed.{Failed}
use Rattle.wf_frame.specs.declared.settings.Config.{Config}
use Rattle.wf_frame.specs.declared.notes.Note.{Note}
use Rattle.wf_trace.specs.declared.fault.End.{End}
use Rattle.wf_trace.specs.declared.fault.Fault.{Fault}
use Rattle.wf_trace.specs.declared.reader.Item.{Item}
use Rattle.wf_trace.specs.declared.reader.Item.TheVariants.{Head, Entry, Finish, Bad}
use Rattle.wf_trace.specs.Cutting.{Fits}
use Rattle.wf_trace.specs.Reading.{Reading, reading, with_item, reading_that_ends}
use Rattle.wf_trace.specs.Reader.{Reader, Reads, GivesItem, IsHeld, rest}
use Rattle.wf_io.specs.declared.status.Status.{Status}
use Rattle.wf_io.specs.declared.status.Status.TheVariants.{Done, Usage, BadTrace, ReadFault, WriteFault, NoMemory}
use Rattle.wf_io.specs.Fronts.{IsFrontOf, HoldsFront}
use Rattle.wf_def_world.specs.World.{World, opening}
use Rattle.wf_trace_laws.specs.Endings.{ReachesEnd}
use Rattle.wf_trace_laws.specs.Histories.{history_among}
use Rattle.wf_trace_laws.specs.Leaving.{Leaves}
use Rattle.wf_trace_laws.specs.Outcomes.{TraceOutcome}
use Rattle.wf_trace_laws.specs.Running.{Progress}
use Rattle.wf_trace_laws.specs.Tellings.{Telling, behind_item, told_item, told_so_far, told_whole}
use Rattle.wf_trace_laws.proofs.Octets.{append_known-nil, append_known-append, prepend_known-nil, prepend_known-append, told, fits_back, fits_rest}
use Rattle.wf_trace_laws.proofs.Shapes.{told_items, behind_items, told_behind, told_text, so_far_told, whole_told}

-- items before others
abbrev pub with_items : List Item → Reading → Reading
with_items items r = record { items = items ++ r.items; ending = r.ending }

-- the text of a reading, from a state of the machine on
abbrev pub text_from : Telling → Progress → Reading → List ℕ
text_from t m r = told_items t m.world r.items
    ++ t.last (behind_items m.world r.items) (m.calls + length (history_among r.items)) r.ending

told_items-append : (t : Telling) (w : Option World) (xs ys : List Item) →
    told_items t w (xs ++ ys) ≡ told_items t w xs ++ told_items t (behind_items w xs) ys
told_items-append t w [] ys = refl
told_items-append t w (x ∷ xs) ys =
    ap (λ l. told_item t w x ++ l) (told_items-append t (behind_item w x) xs ys)
    ∙ sym (append_assoc (told_item t w x) (told_items t (behind_item w x) xs)
    (told_items t (behind_items (behind_item w x) xs) ys))

behind_items-append : (w : Option World) (xs ys : List Item) →
    behind_items w (xs ++ ys) ≡ behind_items (behind_items w xs) ys
behind_items-append w [] ys = refl
behind_items-append w (x ∷ xs) ys = behind_items-append (behind_item w x) xs ys

history_among-append : (xs ys : List Item) → length (history_among (xs ++ ys))
    ≡ length (history_among xs) + length (history_among ys)
history_among-append [] ys = omega arith
history_among-append (Head config ∷ xs) ys = history_among-append xs ys
history_among-append (Entry caller note ∷ xs) ys = let more = history_among-append xs ys in omega arith
history_among-append (Finish ∷ xs) ys = history_among-append xs ys
history_among-append (Bad fault ∷ xs) ys = history_among-append xs ys

-- the text after more items
told_behind-append : (t : Telling) (xs ys : List Item) →
    told_behind t (xs ++ ys) ≡ told_behind t xs ++ told_items t (behind_items None xs) ys
told_behind-append t xs ys =
    ap (λ l. t.front ++ l) (told_items-append t None xs ys)
    ∙ sym (append_assoc t.front (told_items t None xs) (told_items t (behind_items None xs) ys))

-- the items so far lead to this state of the run
pub record LeadsTo (items : List Item) (m : Progress) : Type 0 where
  pub world_is : behind_items None items ≡ m.world
  pub counted : length (history_among items) ≡ m.calls

text-with : (t : Telling) (items : List Item) (m : Progress) (r : Reading) → LeadsTo items m →
    told_text t (with_items items r) ≡ told_behind t items ++ text_from t m r
text-with t items m r leads =
    rw (
      told_behind-append t items r.items,
      behind_items-append None items r.items,
      history_among-append items r.items,
      leads.world_is,
      leads.counted,
    )
    (append_assoc (told_behind t items) (told_items t m.world r.items)
    (t.last (behind_items m.world r.items) (m.calls + length (history_among r.items)) r.ending))

-- Octets were read. Of the text of the items so far the first part was written, and the rest waits.
pub record Running (t : Telling) (reader : Reader) (m : Progress)
    (left left_now held held_now : Option (List ℕ)) (waiting : List ℕ) : Type 0 where
  pub items : List Item
  pub taken : List ℕ
  pub took : left ≡ prepend_known taken left_now
  pub same : (closed : Bool) (more : List ℕ) → Fits reader.cut.cutter.ended left_now closed more →
      reading closed (taken ++ more) ≡ with_items items (rest reader closed more)
  pub written : List ℕ
  pub wrote : held_now ≡ append_known held written
  pub answers : told_behind t items ≡ written ++ waiting
  pub leads : LeadsTo items m

-- the first octets were written, and nothing was read
pub running_none : (t : Telling) (reader : Reader) (left held held_now : Option (List ℕ)) →
    ((closed : Bool) (octets : List ℕ) → rest reader closed octets ≡ reading closed octets) →
    held_now ≡ append_known held t.front → Running t reader
    (record { world = None; calls = 0 }) left left held held_now []
running_none t reader left held held_now is wrote = record {
  items = [];
  taken = [];
  took = prepend_known-nil left;
  same = λ closed more fits. sym (is closed more);
  written = t.front;
  wrote = wrote;
  answers = refl;
  leads = record { world_is = refl; counted = refl };
}

-- a call of the reader read octets
pub record Turned (t : Telling) (result : Result Item Failed) (new : Reader) (m : Progress)
    (left left_new held held_now : Option (List ℕ)) (waiting : List ℕ) : Type 0 where
  pub items : List Item
  pub taken : List ℕ
  pub took : left ≡ prepend_known taken left_new
  pub gives : (closed : Bool) (more : List ℕ) → Fits new.cut.cutter.ended left_new closed more →
      (r : Reading) × (reading closed (taken ++ more) ≡ with_items items r) ×
      GivesItem result new r (rest new closed more)
  pub written : List ℕ
  pub wrote : held_now ≡ append_known held written
  pub answers : told_behind t items ≡ written ++ waiting
  pub leads : LeadsTo items m

pub turned : (t : Telling) (old new : Reader) (m : Progress)
    (left left_now left_new held held_now : Option (List ℕ)) (waiting : List ℕ) (result : Result Item Failed)
    (octets : List ℕ) →
    Running t old m left left_now held held_now waiting → Reads old left_now result new left_new octets →
    (IsSome old.cut.cutter.ended → IsSome new.cut.cutter.ended) →
    Turned t result new m left left_new held held_now waiting
turned t old new m left left_now left_new held held_now waiting result octets so_far reads sticky = record {
  items = so_far.items;
  taken = so_far.taken ++ octets;
  took = so_far.took ∙ ap (prepend_known so_far.taken) reads.taken
      ∙ prepend_known-append so_far.taken octets left_new;
  gives = λ closed more fits. (
    rest old closed (octets ++ more),
    ap (reading closed) (append_assoc so_far.taken octets more)
        ∙ so_far.same closed (octets ++ more) (fits_back old.cut.cutter.ended new.cut.cutter.ended left_now
        left_new octets closed more sticky reads.taken fits),
    reads.gives closed more fits,
  );
  written = so_far.written;
  wrote = so_far.wrote;
  answers = so_far.answers;
  leads = so_far.leads;
}

with_items-more : (items : List Item) (item : Item) (r : Reading) →
    with_items items (with_item item r) ≡ with_items (items ++ item ∷ []) r
with_items-more items item r = ap (λ (l : List Item). let s : Reading =
    record { items = l; ending = r.ending } in s) (sym (append_assoc items (item ∷ []) r.items))

-- the states after a head, and after an entry whose octets were written or wait
abbrev pub headed : Config → Progress
headed config = record { world = Some (opening config); calls = 0 }

abbrev pub gone_on : Progress → ℕ → Note → Progress
gone_on m caller note = record { world = behind_item m.world (Entry caller note); calls = m.calls + 1 }

leads_head : (items : List Item) (m : Progress) (config : Config) → LeadsTo items m → m.calls ≡ 0 →
    LeadsTo (items ++ Head config ∷ []) (headed config)
leads_head items m config leads none = record {
  world_is = behind_items-append None items (Head config ∷ []);
  counted = history_among-append items (Head config ∷ []) ∙ let is = leads.counted in omega arith;
}

leads_entry : (items : List Item) (m : Progress) (caller : ℕ) (note : Note) → LeadsTo items m →
    LeadsTo (items ++ Entry caller note ∷ []) (gone_on m caller note)
leads_entry items m caller note leads = record {
  world_is = behind_items-append None items (Entry caller note ∷ [])
      ∙ ap (λ w. behind_item w (Entry caller note)) leads.world_is;
  counted = history_among-append items (Entry caller note ∷ []) ∙ let is = leads.counted in omega arith;
}

pub with_head : (t : Telling) (new : Reader) (m : Progress) (left left_new held held_now : Option (List ℕ))
    (waiting : List ℕ) (config : Config) →
    Turned t (Ok (Head config)) new m left left_new held held_now waiting → m.calls ≡ 0 →
    Running t new (headed config) left left_new held held_now waiting
with_head t new m left left_new held held_now waiting config so_far none = record {
  items = so_far.items ++ Head config ∷ [];
  taken = so_far.taken;
  took = so_far.took;
  same = λ closed more fits. let g = so_far.gives closed more fits in
      g.1 ∙ ap (with_items so_far.items) g.2 ∙ with_items-more so_far.items (Head config)
      (rest new closed more);
  written = so_far.written;
  wrote = so_far.wrote;
  answers = told_behind-append t so_far.items (Head config ∷ []) ∙ append-nil (told_behind t so_far.items)
      ∙ so_far.answers;
  leads = leads_head so_far.items m config so_far.leads none;
}

-- a line after the octets that wait
line_behind : (line : List ℕ) (written waiting some rest answers : List ℕ) → answers ≡ written ++ waiting →
    waiting ++ line ≡ some ++ rest → answers ++ line ≡ (written ++ some) ++ rest
line_behind line written waiting some rest answers is left =
    ap (λ l. l ++ line) is ∙ append_assoc written waiting line ∙ ap (λ l. written ++ l) left
    ∙ sym (append_assoc written some rest)

pub with_entry : (t : Telling) (new : Reader) (m : Progress)
    (left left_new held held_now held_new : Option (List ℕ)) (waiting left_over : List ℕ) (caller : ℕ)
    (note : Note) (line : List ℕ) →
    Turned t (Ok (Entry caller note)) new m left left_new held held_now waiting →
    line ≡ told_item t m.world (Entry caller note) →
    Leaves held_now held_new (waiting ++ line) left_over →
    Running t new (gone_on m caller note) left left_new held held_new left_over
with_entry t new m left left_new held held_now held_new waiting left_over caller note line so_far is some =
    record {
      items = so_far.items ++ Entry caller note ∷ [];
      taken = so_far.taken;
      took = so_far.took;
      same = λ closed more fits. let g = so_far.gives closed more fits in
          g.1 ∙ ap (with_items so_far.items) g.2 ∙ with_items-more so_far.items (Entry caller note)
          (rest new closed more);
      written = so_far.written ++ some.written;
      wrote = some.holds ∙ ap (λ h. append_known h some.written) so_far.wrote
          ∙ append_known-append held so_far.written some.written;
      answers = told_behind-append t so_far.items (Entry caller note ∷ [])
          ∙ ap (λ l. told_behind t so_far.items ++ l) (append-nil
          (told_item t (behind_items None so_far.items) (Entry caller note))
          ∙ ap (λ w. told_item t w (Entry caller note)) so_far.leads.world_is ∙ sym is)
          ∙ line_behind line so_far.written waiting some.written left_over
          (told_behind t so_far.items) so_far.answers some.is;
      leads = leads_entry so_far.items m caller note so_far.leads;
    }

-- the facts that a status reports, item by item
abbrev pub Says : Telling → Status → List ℕ → List ℕ → List ℕ → Type 0
Says t status input taken written = TraceOutcome (λ (r : Reading). told_behind t r.items)
    (told_text t) status input taken written

-- the facts of each way to end: octets were read and written, which are known if the input is
abbrev pub Ended : Telling → Status → Option (List ℕ) → Option (List ℕ) → Option (List ℕ) → Option (List ℕ) →
    Type 0
Ended t status left left_new held held_new = (taken written : List ℕ) ×
    (left ≡ prepend_known taken left_new) × (held_new ≡ append_known held written)
    × ((input : List ℕ) → left ≡ Some input → Says t status input taken written)

pub ended_at_once : (t : Telling) (left held : Option (List ℕ)) → Ended t NoMemory left left held held
ended_at_once t left held = (
  [],
  [],
  prepend_known-nil left,
  append_known-nil held,
  λ input is. (told_text t (reading true input), refl),
)

-- a part of the first octets was written
pub ended_ahead : (t : Telling) (left held held_new : Option (List ℕ)) → HoldsFront held held_new t.front →
    Ended t WriteFault left left held held_new
ended_ahead t left held held_new some = (
  [],
  some.written,
  prepend_known-nil left,
  some.holds,
  λ input is. let r : Reading = reading true input in
      let items : List ℕ = told_items t None r.items in
      let last : List ℕ = t.last (behind_items None r.items) (length (history_among r.items)) r.ending in (
        some.rest ++ (items ++ last),
        append_assoc t.front items last ∙ ap (λ l. l ++ (items ++ last)) some.is
            ∙ append_assoc some.written some.rest (items ++ last),
      ),
)

-- the whole reading, as far as it is known
whole : (t : Telling) (result : Result Item Failed) (new : Reader) (m : Progress)
    (left left_new held held_now : Option (List ℕ)) (waiting : List ℕ)
    (so_far : Turned t result new m left left_new held held_now waiting) →
    (input : List ℕ) → left ≡ Some input → (r : Reading) × (more : List ℕ) × (left_new ≡ Some more) ×
    (reading true input ≡ with_items so_far.items r) × GivesItem result new r (rest new true more)
whole t result new m left left_new held held_now waiting so_far input is =
    let known = told so_far.taken left_new input (sym is ∙ so_far.took) in
    let fits : Fits new.cut.cutter.ended left_new true known.0 =
    subst (λ (l : Option (List ℕ)). Fits new.cut.cutter.ended l true known.0) (sym known.1)
    (fits_rest new.cut.cutter.ended known.0) in
    let g = so_far.gives true known.0 fits in
    (g.0, known.0, known.1, ap (reading true) known.2 ∙ g.1, g.2)

front : (t : Telling) (items : List Item) (m : Progress) (r s : Reading) (written waiting : List ℕ) →
    LeadsTo items m → told_behind t items ≡ written ++ waiting → s ≡ with_items items r →
    IsFrontOf written (told_text t s)
front t items m r s written waiting leads is same = (
  waiting ++ text_from t m r,
  ap (told_text t) same ∙ text-with t items m r leads ∙ ap (λ l. l ++ text_from t m r) is
      ∙ append_assoc written waiting (text_from t m r),
)

pub ended_no_memory : (t : Telling) (new : Reader) (m : Progress)
    (left left_new held held_now : Option (List ℕ)) (waiting : List ℕ) (result : Result Item Failed) →
    Turned t result new m left left_new held held_now waiting → Ended t NoMemory left left_new held held_now
ended_no_memory t new m left left_new held held_now waiting result so_far = (
  so_far.taken,
  so_far.written,
  so_far.took,
  so_far.wrote,
  λ input is. let w = whole t result new m left left_new held held_now waiting so_far input is in
      front t so_far.items m w.0 (reading true input) so_far.written waiting so_far.leads so_far.answers w.3,
)

-- the source failed: no line of the octets read has ended
nothing : (r : Reader) → IsHeld r → rest r false [] ≡ record { items = []; ending = None }
nothing r held = rw (held.open_, held.cut.open_, held.cut.going, held.cut.given, held.cut.waiting) refl

pub ended_read : (t : Telling) (new : Reader) (m : Progress) (left left_new held held_now : Option (List ℕ))
    (waiting : List ℕ) (failed : Failed) →
    Turned t (Err failed) new m left left_new held held_now waiting → waiting ≡ [] → IsHeld new →
    Ended t ReadFault left left_new held held_now
ended_read t new m left left_new held held_now waiting failed so_far none still = (
  so_far.taken,
  so_far.written,
  so_far.took,
  so_far.wrote,
  λ input is. let w = whole t (Err failed) new m left left_new held held_now waiting so_far input is in
      let fits : Fits new.cut.cutter.ended left_new false [] =
      subst (λ (e : Option End). Fits e left_new false []) (sym still.cut.going) tt in
      let g = so_far.gives false [] fits in
      let all : reading false so_far.taken ≡ with_items so_far.items (record { items = []; ending = None })
      = ap (reading false) (sym (append-nil so_far.taken)) ∙ g.1
      ∙ ap (with_items so_far.items) (g.2 ∙ nothing new still) in (
        ap (λ (r : Reading). r.ending) all,
        sym (ap (λ (r : Reading). told_behind t r.items) all ∙ ap (told_behind t) (append-nil so_far.items)
            ∙ so_far.answers ∙ ap (λ l. so_far.written ++ l) none ∙ append-nil so_far.written),
        front t so_far.items m w.0 (reading true input) so_far.written waiting so_far.leads so_far.answers
            w.3,
      ),
)

-- no octets wait if the source was read
pub none_waits : {P : Type 0} (will : Bool) (failed : Failed) (waiting : List ℕ) →
    (will ≡ true → waiting ≡ []) → (will ≡ false → P × (let r : Result Item Failed = Err failed in IsOk r)) →
    waiting ≡ []
none_waits true failed waiting reads quiet = reads refl
none_waits false failed waiting reads quiet = absurd (let never = (quiet refl).1 in cc)

-- the line that an item adds, and the text after it
abbrev pub line_at : Telling → Progress → Item → List ℕ
line_at t m (Head config) = []
line_at t m (Entry caller note) = told_item t m.world (Entry caller note)
line_at t m Finish = t.last m.world m.calls (Some Finish)
line_at t m (Bad fault) = t.last m.world m.calls (Some (Bad fault))

text_ends : (t : Telling) (m : Progress) (item : Item) →
    text_from t m (reading_that_ends item) ≡ t.last m.world m.calls (Some item)
text_ends t m item = let same : m.calls + 0 ≡ m.calls = omega arith in
    ap (λ n. t.last m.world n (Some item)) same

line_first : (t : Telling) (m : Progress) (item : Item) (new : Reader) (r s : Reading) →
    (new.ended ≡ Some item → s ≡ reading_that_ends item) → GivesItem (Ok item) new r s →
    (more : List ℕ) × (text_from t m r ≡ line_at t m item ++ more)
line_first t m (Head config) new r s is gives = (text_from t m r, refl)
line_first t m (Entry caller note) new r s is gives = (
  told_items t (behind_item m.world (Entry caller note)) s.items
      ++ t.last (behind_items (behind_item m.world (Entry caller note)) s.items)
      (m.calls + length (history_among (Entry caller note ∷ s.items))) s.ending,
  ap (text_from t m) gives ∙ append_assoc (told_item t m.world (Entry caller note))
      (told_items t (behind_item m.world (Entry caller note)) s.items)
      (t.last (behind_items (behind_item m.world (Entry caller note)) s.items)
      (m.calls + length (history_among (Entry caller note ∷ s.items))) s.ending),
)
line_first t m Finish new r s is gives = (
  [],
  ap (text_from t m) (gives.1 ∙ is gives.0) ∙ text_ends t m Finish
      ∙ sym (append-nil (t.last m.world m.calls (Some Finish))),
)
line_first t m (Bad fault) new r s is gives = (
  [],
  ap (text_from t m) (gives.1 ∙ is gives.0) ∙ text_ends t m (Bad fault)
      ∙ sym (append-nil (t.last m.world m.calls (Some (Bad fault)))),
)

rest_ended : (new : Reader) (item : Item) (closed : Bool) (more : List ℕ) → new.ended ≡ Some item →
    rest new closed more ≡ reading_that_ends item
rest_ended new item closed more is = rw is refl

cut_off : (front line more : List ℕ) (some rest : List ℕ) → line ≡ some ++ rest →
    IsFrontOf (front ++ some) (front ++ (line ++ more))
cut_off front line more some rest is = (
  rest ++ more,
  ap (λ l. front ++ (l ++ more)) is ∙ ap (λ l. front ++ l) (append_assoc some rest more)
      ∙ sym (append_assoc front some (rest ++ more)),
)

-- octets were read, and a prefix of the text was written
abbrev pub Front : Telling → Option (List ℕ) → Option (List ℕ) → Option (List ℕ) → Option (List ℕ) → Type 0
Front t left left_new held held_new = (taken written : List ℕ) × (left ≡ prepend_known taken left_new) ×
    (held_new ≡ append_known held written)
    × ((input : List ℕ) → left ≡ Some input → IsFrontOf written (told_text t (reading true input)))

ended_front : (t : Telling) (new : Reader) (m : Progress)
    (left left_new held held_now held_new : Option (List ℕ)) (waiting : List ℕ) (item : Item)
    (line : List ℕ) →
    Turned t (Ok item) new m left left_new held held_now waiting → line ≡ line_at t m item →
    HoldsFront held_now held_new (waiting ++ line) → Front t left left_new held held_new
ended_front t new m left left_new held held_now held_new waiting item line so_far is some = (
  so_far.taken,
  so_far.written ++ some.written,
  so_far.took,
  some.holds ∙ ap (λ h. append_known h some.written) so_far.wrote
      ∙ append_known-append held so_far.written some.written,
  λ input told_is. let w = whole t (Ok item) new m left left_new held held_now waiting so_far input told_is in
      let first = line_first t m item new w.0 (rest new true w.1) (λ e. rest_ended new item true w.1 e) w.4 in
      let all : told_text t (reading true input) ≡ told_behind t so_far.items ++ (line ++ first.0)
      = ap (told_text t) w.3 ∙ text-with t so_far.items m w.0 so_far.leads
      ∙ ap (λ l. told_behind t so_far.items ++ l) (first.1 ∙ ap (λ l. l ++ first.0) (sym is)) in
      let behind : told_behind t so_far.items ++ (line ++ first.0) ≡ so_far.written
      ++ ((waiting ++ line) ++ first.0)
      = ap (λ l. l ++ (line ++ first.0)) so_far.answers
      ∙ append_assoc so_far.written waiting (line ++ first.0)
      ∙ ap (λ l. so_far.written ++ l) (sym (append_assoc waiting line first.0)) in
      let off = cut_off so_far.written (waiting ++ line) first.0 some.written some.rest some.is in
      (off.0, all ∙ behind ∙ off.1),
)

pub ended_write : (t : Telling) (new : Reader) (m : Progress)
    (left left_new held held_now held_new : Option (List ℕ)) (waiting : List ℕ) (item : Item)
    (line : List ℕ) →
    Turned t (Ok item) new m left left_new held held_now waiting → line ≡ line_at t m item →
    HoldsFront held_now held_new (waiting ++ line) → Ended t WriteFault left left_new held held_new
ended_write t new m left left_new held held_now held_new waiting item line so_far is some =
    ended_front t new m left left_new held held_now held_new waiting item line so_far is some

-- the same if memory ran out, after a part of the line
pub ended_no_memory_at : (t : Telling) (new : Reader) (m : Progress)
    (left left_new held held_now held_new : Option (List ℕ)) (waiting : List ℕ) (item : Item)
    (line : List ℕ) →
    Turned t (Ok item) new m left left_new held held_now waiting → line ≡ line_at t m item →
    HoldsFront held_now held_new (waiting ++ line) → Ended t NoMemory left left_new held held_new
ended_no_memory_at t new m left left_new held held_now held_new waiting item line so_far is some =
    ended_front t new m left left_new held held_now held_new waiting item line so_far is some

-- all octets that wait were written, and a line after them
all_written : (held held_now held_new : Option (List ℕ)) (written waiting line answers : List ℕ) →
    held_now ≡ append_known held written → answers ≡ written ++ waiting →
    held_new ≡ append_known held_now (waiting ++ line) → held_new ≡ append_known held (answers ++ line)
all_written held held_now held_new written waiting line answers before is wrote =
    wrote ∙ ap (λ h. append_known h (waiting ++ line)) before
    ∙ append_known-append held written (waiting ++ line)
    ∙ ap (append_known held) (sym (append_assoc written waiting line) ∙ ap (λ l. l ++ line) (sym is))

-- the last line was written
pub ended_done : (t : Telling) (new : Reader) (m : Progress)
    (left left_new held held_now held_new : Option (List ℕ)) (waiting line : List ℕ) →
    Turned t (Ok Finish) new m left left_new held held_now waiting →
    line ≡ t.last m.world m.calls (Some Finish) → held_new ≡ append_known held_now (waiting ++ line) →
    (IsSome new.cut.cutter.ended → IsAtEnd left_new) → Ended t Done left left_new held held_new
ended_done t new m left left_new held held_now held_new waiting line so_far is wrote over = (
  so_far.taken,
  told_behind t so_far.items ++ line,
  so_far.took,
  all_written held held_now held_new so_far.written waiting line
      (told_behind t so_far.items) so_far.wrote so_far.answers wrote,
  λ input told_is. let w = whole t (Ok Finish) new m left left_new held held_now waiting so_far input told_is
      in
      let r_is : w.0 ≡ reading_that_ends Finish = w.4.1 ∙ rest_ended new Finish true w.1 w.4.0 in (
        ap (λ (r : Reading). r.ending) (w.3 ∙ ap (with_items so_far.items) r_is),
        reaches new.cut.cutter.ended refl input told_is,
        sym (ap (told_text t) w.3 ∙ text-with t so_far.items m w.0 so_far.leads
            ∙ ap (λ l. told_behind t so_far.items ++ l)
            (ap (text_from t m) r_is ∙ text_ends t m Finish ∙ sym is)),
      ),
)
  where
    reaches : (end : Option End) → new.cut.cutter.ended ≡ end → (input : List ℕ) → left ≡ Some input →
        ReachesEnd input so_far.taken
    reaches None going input told_is =
        let fits : Fits new.cut.cutter.ended left_new false [] =
        subst (λ (e : Option End). Fits e left_new false []) (sym going) tt in
        let g = so_far.gives false [] fits in
        inl (ap (λ (r : Reading). r.ending) (ap (reading false) (sym (append-nil so_far.taken)) ∙ g.1
        ∙ ap (with_items so_far.items) (g.2.1 ∙ rest_ended new Finish false [] g.2.0)))
    reaches (Some end) ended input told_is =
        let known = told so_far.taken left_new input (sym told_is ∙ so_far.took) in
        let nothing : known.0 ≡ [] = subst (λ (l : Option (List ℕ)). IsAtEnd l) known.1
        (over (subst (λ (e : Option End). IsSome e) (sym ended) refl)) in
        inr (sym (known.2 ∙ ap (λ l. so_far.taken ++ l) nothing ∙ append-nil so_far.taken))

pub ended_bad : (t : Telling) (new : Reader) (m : Progress)
    (left left_new held held_now held_new : Option (List ℕ)) (waiting : List ℕ) (fault : Fault)
    (line : List ℕ) →
    Turned t (Ok (Bad fault)) new m left left_new held held_now waiting →
    line ≡ t.last m.world m.calls (Some (Bad fault)) →
    held_new ≡ append_known held_now (waiting ++ line) → Ended t BadTrace left left_new held held_new
ended_bad t new m left left_new held held_now held_new waiting fault line so_far is wrote = (
  so_far.taken,
  told_behind t so_far.items ++ line,
  so_far.took,
  all_written held held_now held_new so_far.written waiting line
      (told_behind t so_far.items) so_far.wrote so_far.answers wrote,
  λ input told_is. let w = whole t (Ok (Bad fault)) new m left left_new held held_now waiting so_far input
      told_is in
      let r_is : w.0 ≡ reading_that_ends (Bad fault) = w.4.1 ∙ rest_ended new (Bad fault) true w.1 w.4.0 in (
        fault,
        ap (λ (r : Reading). r.ending) (w.3 ∙ ap (with_items so_far.items) r_is),
        sym (ap (told_text t) w.3 ∙ text-with t so_far.items m w.0 so_far.leads
            ∙ ap (λ l. told_behind t so_far.items ++ l)
            (ap (text_from t m) r_is ∙ text_ends t m (Bad fault) ∙ sym is)),
      ),
)

-- ---- the clauses of a command's contract

-- a prefix of an equal text
front_as : (text other : Reading → List ℕ) (r : Reading) (written : List ℕ) → text r ≡ other r →
    IsFrontOf written (text r) → IsFrontOf written (other r)
front_as text other r written same front = (front.0, sym same ∙ front.1)

-- the same for the facts that a status reports
pub outcome_as : (calls other_calls text other_text : Reading → List ℕ) →
    ((closed : Bool) (octets : List ℕ) → calls (reading closed octets)
    ≡ other_calls (reading closed octets)) →
    ((closed : Bool) (octets : List ℕ) → text (reading closed octets) ≡ other_text (reading closed octets)) →
    (status : Status) (input taken written : List ℕ) → TraceOutcome calls text status input taken written →
    TraceOutcome other_calls other_text status input taken written
outcome_as calls other_calls text other_text called texted Done input taken written says =
    (says.0, says.1, says.2 ∙ texted true input)
outcome_as calls other_calls text other_text called texted BadTrace input taken written says =
    (says.0, says.1, says.2 ∙ texted true input)
outcome_as calls other_calls text other_text called texted ReadFault input taken written says = (
  says.0,
  says.1 ∙ called false taken,
  front_as text other_text (reading true input) written
      (texted true input) says.2,
)
outcome_as calls other_calls text other_text called texted WriteFault input taken written says =
    front_as text other_text (reading true input) written (texted true input) says
outcome_as calls other_calls text other_text called texted NoMemory input taken written says =
    front_as text other_text (reading true input) written (texted true input) says
outcome_as calls other_calls text other_text called texted Usage input taken written says = says

-- the facts item by item, for a command that defines its text in its own words
pub said_as : (t : Telling) (calls text : Reading → List ℕ) → ((r : Reading) → told_so_far t r ≡ calls r) →
    ((r : Reading) → told_whole t r ≡ text r) →
    (status : Status) (left left_new held held_new : Option (List ℕ)) →
    Ended t status left left_new held held_new →
    (taken written : List ℕ) × (left ≡ prepend_known taken left_new) × (held_new ≡ append_known held written)
    × ((input : List ℕ) → left ≡ Some input → TraceOutcome calls text status input taken written)
said_as t calls text called texted status left left_new held held_new ended = (
  ended.0,
  ended.1,
  ended.2,
  ended.3,
  λ input is. outcome_as (λ (r : Reading). told_behind t r.items) calls (told_text t) text
      (λ closed octets. so_far_told t closed octets ∙ called (reading closed octets))
      (λ closed octets. whole_told t closed octets ∙ texted (reading closed octets))
      status input ended.0 ended.1 (ended.4 input is),
)
