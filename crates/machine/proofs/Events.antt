-- What each event shows where the machine's words stand. Assumes nothing.
use Rattle.std.proofs.Common.{◌≡◌, ℕ, ◌%◌, ◌<◌, ◌≤◌, not, eqb, List, length, set, sym, refl, ap, ◌∙◌, le-ltb, lt-ltb, ne_eqb, Result, Ok, Err}
use Rattle.cache.specs.Cache.{external_written, reg_read, reg_written, reset_of as cacheReset}
use Rattle.cache.specs.Flat.{cache_words, cache_at, Changes}
use Rattle.cache.specs.declared.L1Cache.{L1Cache}
use Rattle.common.specs.declared.Refusal.{Refusal}
use Rattle.common.specs.declared.Refusal.TheVariants as refusal
use Rattle.irqc.specs.Irqc.{new_controller, source_set, pending_cleared, mask_set, output_of}
use Rattle.irqc.specs.declared.IrqController.{IrqController}
use Rattle.irqc.specs.declared.IrqOutput.{IrqOutput}
use Rattle.layout.specs.Words.{part, put, Reads}
use Rattle.listing.specs.declared.Line.{Line}
use Rattle.memory.specs.Memory.{lent}
use Rattle.privilege.specs.Flat.{system_words, sys_at, reg_at, Traps, Returns, ReadsSr, WritesSr, Comes}
use Rattle.privilege.specs.Registers.Laws.{write_refused}
use Rattle.privilege.specs.State.{new_state, mode_of}
use Rattle.privilege.specs.declared.flat.traps.Resumed.{Resumed}
use Rattle.privilege.specs.declared.registers.SrWritten.{SrWritten}
use Rattle.privilege.specs.declared.state.InstructionMode.{InstructionMode}
use Rattle.privilege.specs.declared.trap.Returned.{Returned}
use Rattle.privilege.specs.declared.trap.Trapped.{Trapped}
use Rattle.script.specs.declared.Event.{Event}
use Rattle.machine.specs.Event.{line_of, showing, refusing, shows, shown, access_kind, stored_by, access_event, trap_event, return_event, read_event, write_event, register_event, state_event, step_of}
use Rattle.machine.specs.Flat.{cache_from, state_words, machine_at, Left, Shows, Accesses, Steps}
use Rattle.machine.specs.State.{with_reg, with_cache, with_irqc, reset_of}
use Rattle.machine.specs.declared.flat.access.Answer.{Answer}
use Rattle.machine.specs.declared.state.Machine.{Machine}
use Rattle.machine.proofs.Words.{sys_long, cache_long, sys_left, sys_put, cache_left, cache_put}

-- ---- events of the privilege state

module _ (l new : List ℕ) (long : length l ≡ state_words) (same : length new ≡ length (part 0 system_words l)) (x : Line) where
  size : length new ≡ system_words
  size = same ∙ sys_long l long

  sys_shows : (M : Machine) → with_reg (machine_at l) (sys_at new) (reg_at new) ≡ M → (v : ℕ) → x ≡ showing v → Shows l (put 0 system_words l new) x (shows M v)
  sys_shows M e v q = (sys_left l long new size, rw (q, sys_put l long new size, e))

  pub trap_shows : (e : Event) (mode : InstructionMode) → mode ≡ mode_of (eqb (e.aux % 2) 1) → Traps (part 0 system_words l) new e.a e.b mode → x ≡ showing 0
      → Shows l (put 0 system_words l new) x (trap_event (machine_at l) e)
  unfolding trap_event machine_at
  trap_shows e mode is w q =
      sys_shows _ (ap (λ (t : Trapped). with_reg (machine_at l) t.sys t.reg) ((w.0 (sys_long l long)).1 ∙ rw is)) 0 q

  pub return_shows : (r : Resumed) → Returns (part 0 system_words l) new r → x ≡ showing r.epc → Shows l (put 0 system_words l new) x (return_event (machine_at l))
  unfolding return_event machine_at
  return_shows r w q =
      let is = (w.0 (sys_long l long)).1 in
      sys_shows _ (ap (λ (t : Returned). with_reg (machine_at l) t.sys t.reg) is) _ (q ∙ ap (λ (t : Returned). showing t.epc) is)

  pub write_shows : (e : Event) (r : Result (Unit {0}) Refusal) → WritesSr (part 0 system_words l) new e.aux e.a r → r ≡ Ok tt → x ≡ showing 0
      → Shows l (put 0 system_words l new) x (write_event (machine_at l) e)
  unfolding write_event machine_at
  write_shows e r w d q =
      let is = (w.0 (sys_long l long)).1 in
      let done = ap (λ (t : SrWritten). t.answer) (sym is) ∙ d in
      rw done (sys_shows _ (ap (λ (t : SrWritten). with_reg (machine_at l) t.sys t.reg) is) 0 q)

  -- a refused write has left the state, and R0 to R31
  pub write_refuses : (e : Event) (r : Result (Unit {0}) Refusal) (f : Refusal) → WritesSr (part 0 system_words l) new e.aux e.a r → r ≡ Err f → x ≡ refusing f
      → Shows l (put 0 system_words l new) x (write_event (machine_at l) e)
  unfolding write_event machine_at
  write_refuses e r f w d q =
      let is = (w.0 (sys_long l long)).1 in
      let no = ap (λ (t : SrWritten). t.answer) (sym is) ∙ d in
      let kept = is ∙ write_refused (sys_at (part 0 system_words l)) e.aux e.a (reg_at (part 0 system_words l)) f no in
      let back : with_reg (machine_at l) (sys_at new) (reg_at new) ≡ machine_at l = ap (λ (t : SrWritten). with_reg (machine_at l) t.sys t.reg) kept in
      (sys_left l long new size, rw (no, q, sys_put l long new size, back))

  pub register_shows : (e : Event) → Comes (part 0 system_words l) new (sys_at (part 0 system_words l)) (set (reg_at (part 0 system_words l)) e.size e.a) → e.size < 32 → x ≡ showing 0
      → Shows l (put 0 system_words l new) x (register_event (machine_at l) e)
  unfolding register_event machine_at
  register_shows e w h q =
      let is = (w.0 (sys_long l long)).1 in
      rw (lt-ltb e.size 32 h) (sys_shows _ (rw (is.0, is.1)) 0 q)

-- ---- events that only read

module _ (l : List ℕ) (long : length l ≡ state_words) (e : Event) (x : Line) where
  pub read_shows : (a : Result ℕ Refusal) (v : ℕ) → ReadsSr (part 0 system_words l) e.aux a → a ≡ Ok v → x ≡ showing v → Shows l l x (read_event (machine_at l) e)
  unfolding read_event machine_at
  read_shows a v w h q = (refl, rw (q, ← w.0 (sys_long l long), h))

  pub read_refuses : (a : Result ℕ Refusal) (f : Refusal) → ReadsSr (part 0 system_words l) e.aux a → a ≡ Err f → x ≡ refusing f → Shows l l x (read_event (machine_at l) e)
  unfolding read_event machine_at
  read_refuses a f w h q = (refl, rw (q, ← w.0 (sys_long l long), h))

pub register_refuses : (l : List ℕ) (e : Event) (x : Line) → 32 ≤ e.size → x ≡ refusing refusal.Event → Shows l l x (register_event (machine_at l) e)
unfolding register_event
register_refuses l e x h q = (refl, rw (le-ltb e.size 32 h, q))

-- ---- events of the cache

module _ (l new : List ℕ) (long : length l ≡ state_words) (same : length new ≡ length (part cache_from cache_words l)) (x : Line) where
  cache_shows : (c : L1Cache) → Changes (part cache_from cache_words l) new c → x ≡ showing 0 → Shows l (put cache_from cache_words l new) x (shows (with_cache (machine_at l) c) 0)
  cache_shows c w q =
      let size : length new ≡ cache_words = same ∙ cache_long l long in
      (cache_left l long new size, rw (q, cache_put l long new size, (w.0 (cache_long l long)).1))

  pub external_shows : (a n : ℕ) → Changes (part cache_from cache_words l) new (external_written (cache_at (part cache_from cache_words l)) a n) → x ≡ showing 0
      → Shows l (put cache_from cache_words l new) x (shows (with_cache (machine_at l) (external_written (machine_at l).cache a n)) 0)
  unfolding machine_at
  external_shows a n w q = cache_shows _ w q

  pub write_reg_shows : (a v : ℕ) → Changes (part cache_from cache_words l) new (reg_written (cache_at (part cache_from cache_words l)) a v) → x ≡ showing 0
      → Shows l (put cache_from cache_words l new) x (shows (with_cache (machine_at l) (reg_written (machine_at l).cache a v)) 0)
  unfolding machine_at
  write_reg_shows a v w q = cache_shows _ w q

cache_in : (l : List ℕ) → (machine_at l).cache ≡ cache_at (part cache_from cache_words l)
unfolding machine_at
cache_in l = refl

pub cache_reads : (l : List ℕ) (a v : ℕ) (x : Line) → length l ≡ state_words → Reads cache_words (part cache_from cache_words l) v 0 (reg_read (cache_at (part cache_from cache_words l)) a)
    → x ≡ showing v → x ≡ showing (reg_read (machine_at l).cache a)
cache_reads l a v x long w q = q ∙ rw (w.0 (cache_long l long), cache_in l)

-- ---- events of the controller, and reset

pub irqc_shows : (l l' : List ℕ) (c : IrqController) (x : Line) → Left l l' (with_irqc (machine_at l) c) → x ≡ showing 0 → Shows l l' x (shows (with_irqc (machine_at l) c) 0)
irqc_shows l l' c x w q = (w.0, rw (q, w.1))

module _ (l new : List ℕ) (long : length l ≡ state_words) (same : length new ≡ length (part 0 system_words l)) (w : Comes (part 0 system_words l) new new_state (reg_at (part 0 system_words l))) where
  abbrev l₁ : List ℕ
  l₁ = put 0 system_words l new

  size₁ : length new ≡ system_words
  size₁ = same ∙ sys_long l long

  pub long₁ : length l₁ ≡ state_words
  long₁ = sys_left l long new size₁ ∙ long

  first : machine_at l₁ ≡ with_reg (machine_at l) new_state (machine_at l).reg
  unfolding machine_at
  first = let is = (w.0 (sys_long l long)).1 in sys_put l long new size₁ ∙ rw (is.0, is.1)

  pub reset_shows : (new₂ l₃ : List ℕ) (c : IrqController) (x : Line) → length new₂ ≡ length (part cache_from cache_words l₁)
      → Changes (part cache_from cache_words l₁) new₂ (cacheReset (cache_at (part cache_from cache_words l₁))) → c ≡ new_controller
      → Left (put cache_from cache_words l₁ new₂) l₃ (with_irqc (machine_at (put cache_from cache_words l₁ new₂)) c) → x ≡ showing 0 → Shows l l₃ x (shows (reset_of (machine_at l)) 0)
  unfolding reset_of
  reset_shows new₂ l₃ c x same₂ w₂ is w₃ q =
      let size₂ : length new₂ ≡ cache_words = same₂ ∙ cache_long l₁ long₁ in
      let second : machine_at (put cache_from cache_words l₁ new₂) ≡ with_cache (machine_at l₁) (cacheReset (machine_at l₁).cache) =
      cache_put l₁ long₁ new₂ size₂ ∙ rw ((w₂.0 (cache_long l₁ long₁)).1, cache_in l₁) in (
        w₃.0 ∙ cache_left l₁ long₁ new₂ size₂ ∙ sys_left l long new size₁,
        rw (q, w₃.1, second, first, is),
      )

-- ---- by the event's kind

module _ (l l' : List ℕ) (e : Event) (x : Line) where
  pub kind_trap : e.kind ≡ 3 → Shows l l' x (trap_event (machine_at l) e) → Shows l l' x (state_event (machine_at l) e)
  unfolding state_event
  kind_trap h w = (w.0, w.1 ∙ rw h)

  pub kind_return : e.kind ≡ 4 → Shows l l' x (return_event (machine_at l)) → Shows l l' x (state_event (machine_at l) e)
  unfolding state_event
  kind_return h w = (w.0, w.1 ∙ rw h)

  pub kind_write : e.kind ≡ 6 → Shows l l' x (write_event (machine_at l) e) → Shows l l' x (state_event (machine_at l) e)
  unfolding state_event
  kind_write h w = (w.0, w.1 ∙ rw h)

  module _ (c i : IrqController) (is : i ≡ (machine_at l).irqc) (w : Shows l l' x (shows (with_irqc (machine_at l) c) 0)) where
    pub kind_source : e.kind ≡ 7 → c ≡ source_set i e.aux (not (eqb e.size 0)) → Shows l l' x (state_event (machine_at l) e)
    unfolding state_event
    kind_source h g = (w.0, w.1 ∙ rw (g, is, h))

    pub kind_clear : e.kind ≡ 8 → c ≡ pending_cleared i e.aux → Shows l l' x (state_event (machine_at l) e)
    unfolding state_event
    kind_clear h g = (w.0, w.1 ∙ rw (g, is, h))

    pub kind_enable : e.kind ≡ 9 → c ≡ mask_set i e.aux → Shows l l' x (state_event (machine_at l) e)
    unfolding state_event
    kind_enable h g = (w.0, w.1 ∙ rw (g, is, h))

  pub kind_external : e.kind ≡ 10 → Shows l l' x (shows (with_cache (machine_at l) (external_written (machine_at l).cache e.a e.b)) 0) → Shows l l' x (state_event (machine_at l) e)
  unfolding state_event
  kind_external h w = (w.0, w.1 ∙ rw h)

  pub kind_cache_write : e.kind ≡ 12 → Shows l l' x (shows (with_cache (machine_at l) (reg_written (machine_at l).cache e.a e.b)) 0) → Shows l l' x (state_event (machine_at l) e)
  unfolding state_event
  kind_cache_write h w = (w.0, w.1 ∙ rw h)

  pub kind_reset : e.kind ≡ 13 → Shows l l' x (shows (reset_of (machine_at l)) 0) → Shows l l' x (state_event (machine_at l) e)
  unfolding state_event
  kind_reset h w = (w.0, w.1 ∙ rw h)

  pub kind_register : e.kind ≡ 15 → Shows l l' x (register_event (machine_at l) e) → Shows l l' x (state_event (machine_at l) e)
  unfolding state_event
  kind_register h w = (w.0, w.1 ∙ rw h)

module _ (l : List ℕ) (e : Event) (x : Line) where
  pub kind_read : e.kind ≡ 5 → Shows l l x (read_event (machine_at l) e) → Shows l l x (state_event (machine_at l) e)
  unfolding state_event
  kind_read h w = (refl, w.1 ∙ rw h)

  pub kind_cache_read : e.kind ≡ 11 → x ≡ showing (reg_read (machine_at l).cache e.a) → Shows l l x (state_event (machine_at l) e)
  unfolding state_event
  kind_cache_read h q = (refl, rw (q, h))

  pub kind_output : (i : IrqController) (o : IrqOutput) (v : ℕ) → e.kind ≡ 14 → i ≡ (machine_at l).irqc → o ≡ output_of i → v ≡ shown o → x ≡ showing v
      → Shows l l x (state_event (machine_at l) e)
  unfolding state_event
  kind_output i o v h is g s q = (refl, rw (q, s, g, is, h))

  pub kind_none : (e.kind ≡ 3 → ⊥) → (e.kind ≡ 4 → ⊥) → (e.kind ≡ 5 → ⊥) → (e.kind ≡ 6 → ⊥) → (e.kind ≡ 7 → ⊥) → (e.kind ≡ 8 → ⊥)
      → (e.kind ≡ 9 → ⊥) → (e.kind ≡ 10 → ⊥) → (e.kind ≡ 11 → ⊥) → (e.kind ≡ 12 → ⊥) → (e.kind ≡ 13 → ⊥) → (e.kind ≡ 14 → ⊥)
      → (e.kind ≡ 15 → ⊥) → x ≡ refusing refusal.Event → Shows l l x (state_event (machine_at l) e)
  unfolding state_event
  kind_none h₃ h₄ h₅ h₆ h₇ h₈ h₉ h₁₀ h₁₁ h₁₂ h₁₃ h₁₄ h₁₅ q = (
    refl,
    rw (
      q,
      ne_eqb e.kind 3 h₃,
      ne_eqb e.kind 4 h₄,
      ne_eqb e.kind 5 h₅,
      ne_eqb e.kind 6 h₆,
      ne_eqb e.kind 7 h₇,
      ne_eqb e.kind 8 h₈,
      ne_eqb e.kind 9 h₉,
      ne_eqb e.kind 10 h₁₀,
      ne_eqb e.kind 11 h₁₁,
      ne_eqb e.kind 12 h₁₂,
      ne_eqb e.kind 13 h₁₃,
      ne_eqb e.kind 14 h₁₄,
      ne_eqb e.kind 15 h₁₅,
    ),
  )

pub ruleset kinds = (kind_trap, kind_return, kind_read, kind_write, kind_source, kind_clear, kind_enable, kind_external, kind_cache_read, kind_cache_write, kind_reset, kind_output, kind_register, kind_none)

-- ---- any event

module _ (l l' : List ℕ) (base : ℕ) (bytes : List ℕ) (e : Event) (x : Line) where
  pub step_access : (r : Answer) (bytes' : List ℕ) → e.kind < 3 → Accesses l l' (access_kind e.kind) (lent base bytes) e.a e.size (stored_by e) r bytes'
      → x ≡ line_of r.outcome r.stall r.reads → Steps l l' base bytes e x bytes'
  unfolding step_of access_event
  step_access r bytes' k w q = (rw (q, lt-ltb e.kind 3 k, ← w.0), w.1 ∙ rw (lt-ltb e.kind 3 k))

  pub step_state : 3 ≤ e.kind → Shows l l' x (state_event (machine_at l) e) → Steps l l' base bytes e x bytes
  unfolding step_of
  step_state k w = (w.1 ∙ rw (le-ltb e.kind 3 k), rw (le-ltb e.kind 3 k))

module _ (l l' : List ℕ) (base : ℕ) (bytes : List ℕ) (e : Event) (x : Line) where
  pub words_accessed : (r : Answer) (bytes' : List ℕ) → e.kind < 3
      → (length l' ≡ length l) × Accesses l l' (access_kind e.kind) (lent base bytes) e.a e.size (stored_by e) r bytes'
      → x ≡ line_of r.outcome r.stall r.reads → (length l' ≡ length l) × Steps l l' base bytes e x bytes'
  words_accessed r bytes' k w q = (w.0, step_access l l' base bytes e x r bytes' k w.1 q)

  pub words_shown : 3 ≤ e.kind → Shows l l' x (state_event (machine_at l) e) → (length l' ≡ length l) × Steps l l' base bytes e x bytes
  words_shown k w = (w.0, step_state l l' base bytes e x k w)
