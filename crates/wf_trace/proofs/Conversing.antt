-- Proves what each status of `converse` says: octets were read and answers written for the events so far,
-- and each way to end adds its last lines or a part of a text.
use Rattle.std.proofs.Common.{inl, inr, ◌+◌, ◌≡◌, ℕ, List, [], ◌∷◌, ◌++◌, Bool, true, false, refl, sym, ◌∙◌, ap, subst, append_assoc, append-nil}
use Rattle.std.specs.Prelude.{Option, Some, None, Result, Ok, Err, IsSome}
use Rattle.std.specs.Io.KnownBytes.{prepend_known, append_known, IsAtEnd}
use Rattle.wf_io.specs.declared.source.Failed.{Failed}
use Rattle.wf_trace.specs.declared.fault.End.{End}
use Rattle.wf_trace.specs.declared.fault.Fault.{Fault}
use Rattle.wf_trace.specs.Cutting.{Fits}
use Rattle.wf_trace.specs.Numbering.{Numbering, HasNoLine, pieces_left}
use Rattle.wf_trace.specs.Pieces.{Pieces, pieces}
use Rattle.wf_trace.proofs.Taking.{prepend_known-nil, prepend_known-append}
use Rattle.wf_trace.proofs.CutLaws.{fits_back}
use Rattle.wf_io.specs.Fronts.{HoldsFront}
use Rattle.wf_trace.specs.Faults.{fault_line}
use Rattle.wf_io.specs.Fronts.{IsFrontOf}
use Rattle.wf_io.specs.declared.status.Status.{Status}
use Rattle.wf_io.specs.declared.status.Status.TheVariants.{Done, BadTrace, ReadFault, NoMemory}
use Rattle.wf_trace.specs.declared.script.ending.Ending.{Ending}
use Rattle.wf_trace.specs.declared.script.ending.Ending.TheVariants.{Finish, Bad}
use Rattle.wf_trace.specs.declared.script.reading.Item.{Item}
use Rattle.wf_trace.specs.declared.script.reading.Item.TheVariants.{Event, Ended}
use Rattle.wf_trace.specs.Scripts.{Script, Grammar, with_event, script, read_lines}
use Rattle.wf_trace.specs.ScriptTexts.{Manner, answers, state_behind, last_lines, text}
use Rattle.wf_trace.specs.ScriptReading.{rest, Says, Reads}
use Rattle.wf_trace.specs.ScriptOutcome.{ScriptOutcome, ReachesEnd}
use Rattle.wf_trace.proofs.ScriptFronts.{append_known-nil, append_known-append}

-- ---- events before others
abbrev pub with_events : {E : Type 0} → List E → Script E → Script E
with_events events s = record { events = events ++ s.events; ending = s.ending }

answers-append : {E W : Type 0} (m : Manner E W) (w : W) (xs ys : List E) →
    answers m w (xs ++ ys) ≡ answers m w xs ++ answers m (state_behind m w xs) ys
answers-append m w [] ys = refl
answers-append m w (x ∷ xs) ys = ap (λ l. m.answer w x ++ l) (answers-append m (m.after w x) xs ys)
    ∙ sym (append_assoc (m.answer w x) (answers m (m.after w x) xs)
    (answers m (state_behind m (m.after w x) xs) ys))

behind-append : {E W : Type 0} (m : Manner E W) (w : W) (xs ys : List E) →
    state_behind m w (xs ++ ys) ≡ state_behind m (state_behind m w xs) ys
behind-append m w [] ys = refl
behind-append m w (x ∷ xs) ys = behind-append m (m.after w x) xs ys

text-with : {E W : Type 0} (m : Manner E W) (w : W) (events : List E) (s : Script E) →
    text m w (with_events events s) ≡ answers m w events ++ text m (state_behind m w events) s
text-with m w events s =
    rw (answers-append m w events s.events, behind-append m w events s.events)
    (append_assoc (answers m w events) (answers m (state_behind m w events) s.events)
    (last_lines m (state_behind m (state_behind m w events) s.events) s.ending))

with_events-more : {E : Type 0} (events : List E) (event : E) (s : Script E) →
    with_events events (with_event event s) ≡ with_events (events ++ event ∷ []) s
with_events-more {E} events event s = ap (λ (l : List E). let r : Script E =
    record { events = l; ending = s.ending } in r) (sym (append_assoc events (event ∷ []) s.events))

-- ---- octets of an input that is known
told : (taken : List ℕ) (left_now : Option (List ℕ)) (input : List ℕ) →
    Some input ≡ prepend_known taken left_now → (left : List ℕ) × (left_now ≡ Some left) ×
    (input ≡ taken ++ left)
told taken None input is = absurd (cc)
told taken (Some left) input is = (left, refl, cc)

fits_rest : (end : Option End) (left : List ℕ) → Fits end (Some left) true left
fits_rest None left = tt
fits_rest (Some end) left = (refl, refl)

-- ---- octets were read and written for the events so far
pub record Conversing {E W : Type 0} (g : Grammar E) (m : Manner E W) (start now : W) (count : ℕ)
    (c : Numbering) (left left_now held held_now : Option (List ℕ)) : Type 0 where
  pub events : List E
  pub taken : List ℕ
  pub took : left ≡ prepend_known taken left_now
  pub same : (closed : Bool) (more : List ℕ) → Fits c.cutter.ended left_now closed more →
      script g closed (taken ++ more) ≡ with_events events (rest g count c closed more)
  pub wrote : held_now ≡ append_known held (answers m start events)
  pub leads : state_behind m start events ≡ now

rest_first : {E : Type 0} (g : Grammar E) (c : Numbering) (closed : Bool) (octets : List ℕ) →
    pieces_left c closed octets ≡ pieces closed octets →
    script g closed octets ≡ with_events [] (rest g 0 c closed octets)
rest_first g c closed octets same = ap (λ (p : Pieces). read_lines g 0 p.lines p.ending) (sym same)

pub conversing_none : {E W : Type 0} (g : Grammar E) (m : Manner E W) (start : W) (c : Numbering)
    (left held : Option (List ℕ)) →
    ((closed : Bool) (octets : List ℕ) → pieces_left c closed octets ≡ pieces closed octets) →
    Conversing g m start start 0 c left left held held
conversing_none g m start c left held is = record {
  events = [];
  taken = [];
  took = prepend_known-nil left;
  same = λ closed more fits. rest_first g c closed more (is closed more);
  wrote = append_known-nil held;
  leads = refl;
}

-- a call read octets
pub record Turned {E W : Type 0} (g : Grammar E) (m : Manner E W) (start now : W) (count : ℕ)
    (result : Result (Item E) Failed) (new : Numbering)
    (left left_new held held_now : Option (List ℕ)) : Type 0 where
  pub events : List E
  pub taken : List ℕ
  pub took : left ≡ prepend_known taken left_new
  pub says : (closed : Bool) (more : List ℕ) → Fits new.cutter.ended left_new closed more →
      (s : Script E) × (script g closed (taken ++ more) ≡ with_events events s) ×
      Says result s (rest g (count + 1) new closed more) (rest g count new closed more)
  pub wrote : held_now ≡ append_known held (answers m start events)
  pub leads : state_behind m start events ≡ now

pub turned : {E W : Type 0} (g : Grammar E) (m : Manner E W) (start now : W) (count : ℕ) (old new : Numbering)
    (left left_now left_new held held_now : Option (List ℕ)) (result : Result (Item E) Failed)
    (octets : List ℕ) →
    Conversing g m start now count old left left_now held held_now →
    Reads g count old left_now result new left_new octets →
    (IsSome old.cutter.ended → IsSome new.cutter.ended) →
    Turned g m start now count result new left left_new held held_now
turned g m start now count old new left left_now left_new held held_now result octets so_far reads sticky =
    record {
      events = so_far.events;
      taken = so_far.taken ++ octets;
      took = so_far.took ∙ ap (prepend_known so_far.taken) reads.taken
          ∙ prepend_known-append so_far.taken octets left_new;
      says = λ closed more fits. (
        rest g count old closed (octets ++ more),
        ap (script g closed) (append_assoc so_far.taken octets more)
            ∙ so_far.same closed (octets ++ more) (fits_back old.cutter.ended new.cutter.ended left_now
            left_new
            octets closed more sticky reads.taken fits),
        reads.says closed more fits,
      );
      wrote = so_far.wrote;
      leads = so_far.leads;
    }

-- an event whose answer was written
pub with_answer : {E W : Type 0} (g : Grammar E) (m : Manner E W) (start now next : W) (count : ℕ)
    (new : Numbering) (left left_new held held_now held_new : Option (List ℕ)) (event : E) →
    Turned g m start now count (Ok (Event event)) new left left_new held held_now →
    held_new ≡ append_known held_now (m.answer now event) → next ≡ m.after now event →
    Conversing g m start next (count + 1) new left left_new held held_new
with_answer g m start now next count new left left_new held held_now held_new event t wrote after = record {
  events = t.events ++ event ∷ [];
  taken = t.taken;
  took = t.took;
  same = λ closed more fits. let s = t.says closed more fits in
      s.1 ∙ ap (with_events t.events) s.2 ∙ with_events-more t.events event
      (rest g (count + 1) new closed more);
  wrote = wrote ∙ ap (λ h. append_known h (m.answer now event)) t.wrote
      ∙ append_known-append held (answers m start t.events) (m.answer now event)
      ∙ ap (append_known held) (sym (answers-append m start t.events (event ∷ [])
      ∙ ap (λ l. answers m start t.events ++ l)
      (append-nil (m.answer (state_behind m start t.events) event)
      ∙ ap (λ w. m.answer w event) t.leads)));
  leads = behind-append m start t.events (event ∷ []) ∙ ap (λ w. m.after w event) t.leads ∙ sym after;
}

-- ---- the ways to end: octets were read and written, which are known if the input is
abbrev pub Over : {E W : Type 0} → Grammar E → Manner E W → W → Status → Option (List ℕ) → Option (List ℕ) →
    Option (List ℕ) → Option (List ℕ) → Type 0
Over g m start status left left_new held held_new = (taken written : List ℕ) ×
    (left ≡ prepend_known taken left_new) × (held_new ≡ append_known held written)
    × ((input : List ℕ) → left ≡ Some input → ScriptOutcome g m start status input taken written)

pub over_at_once : {E W : Type 0} (g : Grammar E) (m : Manner E W) (start : W) (left held : Option (List ℕ)) →
    Over g m start NoMemory left left held held
over_at_once g m start left held = (
  [],
  [],
  prepend_known-nil left,
  append_known-nil held,
  λ input is. ((text m start (script g true input), refl), inl (refl, refl)),
)

-- the whole script, as far as it is known
whole : {E W : Type 0} (g : Grammar E) (m : Manner E W) (start now : W) (count : ℕ)
    (result : Result (Item E) Failed) (new : Numbering) (left left_new held held_now : Option (List ℕ))
    (t : Turned g m start now count result new left left_new held held_now) → (input : List ℕ) →
    left ≡ Some input →
    (s : Script E) × (more : List ℕ) × (script g true input ≡ with_events t.events s) ×
    Says result s (rest g (count + 1) new true more) (rest g count new true more)
whole g m start now count result new left left_new held held_now t input is =
    let known = told t.taken left_new input (sym is ∙ t.took) in
    let fits : Fits new.cutter.ended left_new true known.0 =
    subst (λ (l : Option (List ℕ)). Fits new.cutter.ended l true known.0) (sym known.1)
    (fits_rest new.cutter.ended known.0) in
    let s = t.says true known.0 fits in
    (s.0, known.0, ap (script g true) known.2 ∙ s.1, s.2)

-- the text of the whole script begins with the answers so far
whole_text : {E W : Type 0} (m : Manner E W) (start now : W) (events : List E) (s all : Script E) →
    all ≡ with_events events s → state_behind m start events ≡ now →
    text m start all ≡ answers m start events ++ text m now s
whole_text m start now events s all is leads =
    ap (text m start) is ∙ text-with m start events s ∙ ap (λ w. answers m start events ++ text m w s) leads

-- the source failed: no line of the octets read has ended
nothing : {E : Type 0} (g : Grammar E) (count : ℕ) (c : Numbering) → HasNoLine c →
    rest g count c false [] ≡ record { events = []; ending = None }
nothing g count c none = rw (none.open_, none.going, none.given, none.waiting) refl

pub over_read : {E W : Type 0} (g : Grammar E) (m : Manner E W) (start now : W) (count : ℕ) (new : Numbering)
    (left left_new held held_now : Option (List ℕ)) (failed : Failed) →
    Turned g m start now count (Err failed) new left left_new held held_now → HasNoLine new →
    Over g m start ReadFault left left_new held held_now
over_read {E} g m start now count new left left_new held held_now failed t still = (
  t.taken,
  answers m start t.events,
  t.took,
  t.wrote,
  λ input is. let w = whole g m start now count (Err failed) new left left_new held held_now t input is in
      let fits : Fits new.cutter.ended left_new false [] =
      subst (λ (e : Option End). Fits e left_new false []) (sym still.going) tt in
      let s = t.says false [] fits in
      let all : script g false t.taken ≡ with_events t.events (record { events = []; ending = None })
      = ap (script g false) (sym (append-nil t.taken)) ∙ s.1
      ∙ ap (with_events t.events) (s.2 ∙ nothing g count new still) in (
        ap (λ (r : Script E). r.ending) all,
        sym (ap (λ (r : Script E). answers m start r.events) all
            ∙ ap (answers m start) (append-nil t.events)),
        (text m now w.0, whole_text m start now t.events w.0 (script g true input) w.2 t.leads),
      ),
)

-- the text that an item adds, and the text after it
abbrev pub line_at : {E W : Type 0} → Manner E W → W → Item E → List ℕ
line_at m w (Event event) = m.answer w event
line_at m w (Ended ending) = last_lines m w (Some ending)

line_first : {E W : Type 0} (m : Manner E W) (now : W) (item : Item E) (s more same : Script E) →
    Says (Ok item) s more same → (others : List ℕ) × (text m now s ≡ line_at m now item ++ others)
line_first m now (Event event) s more same says = (
  text m (m.after now event) more,
  ap (text m now) says ∙ append_assoc (m.answer now event) (answers m (m.after now event) more.events)
      (last_lines m (state_behind m (m.after now event) more.events) more.ending),
)
line_first m now (Ended ending) s more same says =
    ([], ap (text m now) says ∙ sym (append-nil (last_lines m now (Some ending))))

cut_off : (front line more some others : List ℕ) → line ≡ some ++ others →
    IsFrontOf (front ++ some) (front ++ (line ++ more))
cut_off front line more some others is = (
  others ++ more,
  ap (λ l. front ++ (l ++ more)) is ∙ ap (λ l. front ++ l) (append_assoc some others more)
      ∙ sym (append_assoc front some (others ++ more)),
)

-- octets were read, and a prefix of the text was written
abbrev pub Front : {E W : Type 0} → Grammar E → Manner E W → W → Option (List ℕ) → Option (List ℕ) →
    Option (List ℕ) → Option (List ℕ) → Type 0
Front g m start left left_new held held_new = (taken written : List ℕ) ×
    (left ≡ prepend_known taken left_new) × (held_new ≡ append_known held written)
    × ((input : List ℕ) → left ≡ Some input → IsFrontOf written (text m start (script g true input)))

pub over_front : {E W : Type 0} (g : Grammar E) (m : Manner E W) (start now : W) (count : ℕ) (new : Numbering)
    (left left_new held held_now held_new : Option (List ℕ)) (item : Item E) →
    Turned g m start now count (Ok item) new left left_new held held_now →
    HoldsFront held_now held_new (line_at m now item) → Front g m start left left_new held held_new
over_front g m start now count new left left_new held held_now held_new item t some = (
  t.taken,
  answers m start t.events ++ some.written,
  t.took,
  some.holds ∙ ap (λ h. append_known h some.written) t.wrote
      ∙ append_known-append held (answers m start t.events) some.written,
  λ input is. let w = whole g m start now count (Ok item) new left left_new held held_now t input is in
      let first = line_first m now item w.0 (rest g (count + 1) new true w.1)
      (rest g count new true w.1) w.3 in
      let all : text m start (script g true input) ≡ answers m start t.events
      ++ (line_at m now item ++ first.0)
      = whole_text m start now t.events w.0 (script g true input) w.2 t.leads
      ∙ ap (λ l. answers m start t.events ++ l) first.1 in
      let off = cut_off (answers m start t.events) (line_at m now item) first.0 some.written some.rest some.is
      in
      (off.0, all ∙ off.1),
)

-- memory ran out at an event
pub over_memory : {E W : Type 0} (g : Grammar E) (m : Manner E W) (start now : W) (count : ℕ)
    (new : Numbering)
    (left left_new held held_now held_new : Option (List ℕ)) (event : E) →
    Turned g m start now count (Ok (Event event)) new left left_new held held_now →
    HoldsFront held_now held_new (m.answer now event) → m.wants now event ≡ true →
    Over g m start NoMemory left left_new held held_new
unfolding over_front
over_memory {E} g m start now count new left left_new held held_now held_new event t some wants = (
  t.taken,
  answers m start t.events ++ some.written,
  t.took,
  some.holds ∙ ap (λ h. append_known h some.written) t.wrote
      ∙ append_known-append held (answers m start t.events) some.written,
  λ input is.
      let f = over_front g m start now count new left left_new held held_now held_new (Event event) t some in
      let w = whole g m start now count (Ok (Event event)) new left left_new held held_now t input is in (
        f.4 input is,
        inr (record {
          before = t.events;
          event = event;
          later = (rest g (count + 1) new true w.1).events;
          is = ap (λ (r : Script E). r.events) (w.2 ∙ ap (with_events t.events) w.3);
          wants = ap (λ v. m.wants v event) t.leads ∙ wants;
          least = (some.written, refl);
          most = (
            some.rest,
            answers-append m start t.events (event ∷ [])
                ∙ ap (λ l. answers m start t.events ++ l)
                (append-nil (m.answer (state_behind m start t.events) event)
                ∙ ap (λ v. m.answer v event) t.leads ∙ some.is)
                ∙ sym (append_assoc (answers m start t.events) some.written some.rest),
          );
        }),
      ),
)

-- the last lines were written
ended_text : {E W : Type 0} (g : Grammar E) (m : Manner E W) (start now : W) (count : ℕ) (ending : Ending)
    (new : Numbering) (left left_new held held_now : Option (List ℕ))
    (t : Turned g m start now count (Ok (Ended ending)) new left left_new held held_now) → (input : List ℕ) →
    left ≡ Some input →
    ((script g true input).ending ≡ Some ending) ×
    (answers m start t.events ++ last_lines m now (Some ending) ≡ text m start (script g true input))
ended_text {E} g m start now count ending new left left_new held held_now t input is =
    let w = whole g m start now count (Ok (Ended ending)) new left left_new held held_now t input is in (
      ap (λ (r : Script E). r.ending) (w.2 ∙ ap (with_events t.events) w.3),
      sym (whole_text m start now t.events w.0 (script g true input) w.2 t.leads
          ∙ ap (λ r. answers m start t.events ++ text m now r) w.3),
    )

pub over_done : {E W : Type 0} (g : Grammar E) (m : Manner E W) (start now : W) (count : ℕ) (new : Numbering)
    (left left_new held held_now held_new : Option (List ℕ)) →
    Turned g m start now count (Ok (Ended Finish)) new left left_new held held_now →
    held_new ≡ append_known held_now (m.closing now) →
    (IsSome new.cutter.ended → IsAtEnd left_new) → Over g m start Done left left_new held held_new
over_done {E} g m start now count new left left_new held held_now held_new t wrote over = (
  t.taken,
  answers m start t.events ++ m.closing now,
  t.took,
  wrote ∙ ap (λ h. append_known h (m.closing now)) t.wrote
      ∙ append_known-append held (answers m start t.events) (m.closing now),
  λ input is. let e = ended_text g m start now count Finish new left left_new held held_now t input is in
      (e.0, reaches new.cutter.ended refl input is, e.1),
)
  where
    reaches : (end : Option End) → new.cutter.ended ≡ end → (input : List ℕ) → left ≡ Some input →
        ReachesEnd g input t.taken
    reaches None going input is =
        let fits : Fits new.cutter.ended left_new false [] =
        subst (λ (e : Option End). Fits e left_new false []) (sym going) tt in
        let s = t.says false [] fits in
        inl (ap (λ (r : Script E). r.ending) (ap (script g false) (sym (append-nil t.taken)) ∙ s.1
        ∙ ap (with_events t.events) s.2))
    reaches (Some end) ended input is =
        let known = told t.taken left_new input (sym is ∙ t.took) in
        let none : known.0 ≡ [] = subst (λ (l : Option (List ℕ)). IsAtEnd l) known.1
        (over (subst (λ (e : Option End). IsSome e) (sym ended) refl)) in
        inr (sym (known.2 ∙ ap (λ l. t.taken ++ l) none ∙ append-nil t.taken))

pub over_bad : {E W : Type 0} (g : Grammar E) (m : Manner E W) (start now : W) (count : ℕ) (new : Numbering)
    (left left_new held held_now held_new : Option (List ℕ)) (fault : Fault) (line : List ℕ) →
    Turned g m start now count (Ok (Ended (Bad fault))) new left left_new held held_now →
    line ≡ fault_line fault → held_new ≡ append_known held_now line →
    Over g m start BadTrace left left_new held held_new
over_bad g m start now count new left left_new held held_now held_new fault line t is wrote = (
  t.taken,
  answers m start t.events ++ line,
  t.took,
  wrote ∙ ap (λ h. append_known h line) t.wrote ∙ append_known-append held (answers m start t.events) line,
  λ input told_is. let e = ended_text g m start now count
      (Bad fault) new left left_new held held_now t input told_is in
      (fault, e.0, ap (λ l. answers m start t.events ++ l) is ∙ e.1),
)
