-- What a build and a load of a dictionary of one layout are for one of either layout.
use Rattle.std.proofs.Common.{◌≡◌, ◌∙◌, ◌<◌, ◌++◌, ◌∷◌, [], ℕ, zero, suc, Bool, false, List, length, Option, None, Some, Result, Ok, Err, IfErr, IfOk, IfSome}
use Rattle.std.proofs.Common.{ap, append-nil, arith, inl, inr, refl, subst, sym}
use Rattle.std.specs.List.{slice_get}
use Rattle.std.specs.Prelude.{drop, IfNone, option_map}
use Rattle.std.specs.Io.Chain.{chain_remaining}
use Rattle.std.specs.Io.KnownBytes.{Consumes, IsAtEnd}
use Rattle.std.specs.declared.io.traits.Chain.{Chain}
use Rattle.whole_files.specs.OpenedFiles.{file_to_read, read_calls}
use Rattle.whole_files.specs.Openings.{opened_to_read}
use Rattle.whole_files.specs.declared.opening.FileToRead.{FileToRead}
use Rattle.cedar_file.proofs.LoadLemmas.{stands_in, stays_refused}
use Rattle.cedar_format.specs.Format.{Passes}
use Rattle.cedar_format.specs.Reading.{LacksNoMore}
use Rattle.cedar_format.specs.declared.error.CedarPersistenceError.TheVariants as errors
use Rattle.cedar_format.specs.declared.header.Header.{Header}
use Rattle.cedarwood.specs.CedarPersistenceError.{CedarPersistenceError}
use Rattle.cedarwood.specs.Dictionary.{Dictionary}
use Rattle.cedarwood.specs.Layouts.{LayoutKind, default_layout, layout_byte, reduced_layout}
use Rattle.cedarwood.specs.Limits.{most_slots}
use Rattle.cedarwood.specs.Loading.{LoadsBy}
use Rattle.cedarwood.specs.declared.error.CedarError.{CedarError}
use Rattle.cedarwood.proofs.LoadLemmas.{lacks_by_path}
use Rattle.either_layout.specs.Layouts.{inner_dictionary, inner_layout, layout_for}
use Rattle.either_layout.specs.Loads.{file_layout, LacksInEither, LoadsAnyFrom, LoadsAnyOpened}
use Rattle.either_layout.specs.Loads.{names_reduced_layout, NamesLayout, table_in}
use Rattle.either_layout.specs.declared.any.AnyCedar.{AnyCedar}

-- a dictionary that was made of pairs shows that they had no fault
pub no_fault : (o : Option CedarError) (d : Dictionary) (a : AnyCedar)
    → IfSome o (λ e. ◌≡◌ {A = Result Dictionary CedarError} (Ok d) (Err e)) → IfSome o (λ e. ◌≡◌ {A = Result AnyCedar CedarError} (Ok a) (Err e))
no_fault None d a told = tt
no_fault (Some e) d a told = absurd cc

-- and a fault that was returned for one layout is returned for either
pub same_fault : (o : Option CedarError) (error : CedarError)
    → IfSome o (λ e. ◌≡◌ {A = Result Dictionary CedarError} (Err error) (Err e)) → IfSome o (λ e. ◌≡◌ {A = Result AnyCedar CedarError} (Err error) (Err e))
same_fault None error told = tt
same_fault (Some e) error told = let same : error ≡ e = cc in ap (λ (x : CedarError). Err x) same

module _ (limit : ℕ) (before after : Option (List ℕ)) (failed cut : Bool) (is_reduced : Bool) where
  -- what was loaded, as one of either layout
  pub loads_either : (kind : LayoutKind) → kind ≡ layout_for is_reduced → (d : Dictionary) (a : AnyCedar) → d ≡ inner_dictionary a
      → LoadsBy (λ (x : Dictionary). x.table) kind most_slots limit before after failed cut (Ok d)
      → LoadsBy table_in (layout_for is_reduced) most_slots limit before after failed cut (Ok a)
  loads_either kind same d a is loads =
      subst (λ k. LoadsBy table_in k most_slots limit before after failed cut (Ok a)) same
      (stands_in (λ (x : Dictionary). x.table) table_in kind most_slots limit before after failed cut d a (ap (λ (x : Dictionary). x.table) is) loads)

  -- and what was refused
  pub refused_either : (kind : LayoutKind) → kind ≡ layout_for is_reduced → (e : CedarPersistenceError)
      → LoadsBy (λ (x : Dictionary). x.table) kind most_slots limit before after failed cut (Err e)
      → LoadsBy table_in (layout_for is_reduced) most_slots limit before after failed cut (Err e)
  refused_either kind same e loads =
      subst (λ k. LoadsBy table_in k most_slots limit before after failed cut (Err e)) same
      (stays_refused (λ (x : Dictionary). x.table) table_in kind most_slots limit before after failed cut e loads)

-- what a load by path lacks
pub lacks_either : (kind : LayoutKind) (limit : ℕ) (before after : Option (List ℕ)) (failed cut : Bool) (result : Result AnyCedar CedarPersistenceError)
    → LoadsBy table_in kind most_slots limit before after failed cut result → IfErr result (LacksInEither limit)
lacks_either kind limit before after failed cut (Ok a) loads = tt
lacks_either default_layout limit before after failed cut (Err e) loads = inl (lacks_by_path (layout_byte default_layout) most_slots limit before e loads.lacks)
lacks_either reduced_layout limit before after failed cut (Err e) loads = inr (lacks_by_path (layout_byte reduced_layout) most_slots limit before e loads.lacks)

-- ---- a load by path

-- of a header that passed, it needn't be told with which bytes it began
untold : (layout slots limit : ℕ) (before : Option (List ℕ)) (h : Header) → Passes layout slots limit before h → Passes layout slots limit None h
untold layout slots limit before h passes = record { front = passes.front; is = passes.is; sizes = passes.sizes; first = tt }

untold_lack : (layout slots limit : ℕ) (before : Option (List ℕ)) (e : CedarPersistenceError) → LacksNoMore (Passes layout slots limit before) e → LacksNoMore (Passes layout slots limit None) e
untold_lack layout slots limit before (errors.Io cause) lacks = tt
untold_lack layout slots limit before errors.Truncated lacks = tt
untold_lack layout slots limit before errors.InvalidMagic lacks = tt
untold_lack layout slots limit before errors.TrailingData lacks = tt
untold_lack layout slots limit before (errors.UnsupportedVersion a b) lacks = tt
untold_lack layout slots limit before (errors.UnsupportedByteOrder a) lacks = tt
untold_lack layout slots limit before (errors.LayoutMismatch a b) lacks = tt
untold_lack layout slots limit before (errors.InvalidHeader a b) lacks = tt
untold_lack layout slots limit before (errors.AllocationLimitExceeded a b) lacks = tt
untold_lack layout slots limit before (errors.AllocationFailed n) lacks = (lacks.0, untold layout slots limit before lacks.0 lacks.1, lacks.2)
untold_lack layout slots limit before (errors.CorruptData a b i) lacks = tt

module _ (kind : LayoutKind) (limit : ℕ) (after : Option (List ℕ)) (failed cut : Bool) where
  -- a load promises as much of a source of which less is told
  untold_loads : (before : Option (List ℕ)) (result : Result AnyCedar CedarPersistenceError)
      → LoadsBy table_in kind most_slots limit before after failed cut result → LoadsBy table_in kind most_slots limit None after failed cut result
  untold_loads before (Ok a) loads = record { bytes = (loads.bytes.0, loads.bytes.1, tt); formed = loads.formed; answer = tt; decided = λ no_io. tt; io = tt; lacks = tt }
  untold_loads before (Err e) loads = record { bytes = tt; formed = tt; answer = tt; decided = λ no_io. tt; io = loads.io; lacks = untold_lack (layout_byte kind) most_slots limit before e loads.lacks }

  -- and of one whose bytes are those that it had, if they are known
  known_loads : (before : Option (List ℕ)) (bytes : List ℕ) (result : Result AnyCedar CedarPersistenceError) → IfSome before (λ known. known ≡ bytes)
      → LoadsBy table_in kind most_slots limit (Some bytes) after failed cut result → LoadsBy table_in kind most_slots limit before after failed cut result
  known_loads None bytes result same loads = untold_loads (Some bytes) result loads
  known_loads (Some known) bytes result same loads = subst (λ bs. LoadsBy table_in kind most_slots limit (Some bs) after failed cut result) (sym same) loads

-- the bytes of a file that ends behind its first ones are these
whole_known : (seen rest : Option (List ℕ)) (head : List ℕ) → Consumes seen rest head → IsAtEnd rest → IfSome seen (λ known. known ≡ head)
whole_known None rest head taken ended = tt
whole_known (Some known) None head taken ended = absurd taken
whole_known (Some known) (Some rest) head taken ended = taken ∙ ap (λ bs. head ++ bs) ended ∙ append-nil head

-- and so these name its layout
named_known : (before : Option (List ℕ)) (bytes : List ℕ) → IfSome before (λ known. known ≡ bytes) → NamesLayout (file_layout bytes) before
named_known None bytes same = tt
named_known (Some known) bytes same = ap file_layout (sym same)

-- a load of a file that ends behind its first bytes is one of these
pub loads_short : (limit : ℕ) (before seen rest : Option (List ℕ)) (head : List ℕ) (result : Result AnyCedar CedarPersistenceError) → seen ≡ before → Consumes seen rest head → IsAtEnd rest
    → IfOk result (λ a. inner_layout a ≡ file_layout head) → (left : Option (List ℕ)) × LoadsBy table_in (file_layout head) most_slots limit (Some head) left false false result
    → LoadsAnyOpened limit before result
loads_short limit before seen rest head result same taken ended layout loads =
    let known : IfSome before (λ known. known ≡ head) = subst (λ o. IfSome o (λ known. known ≡ head)) same (whole_known seen rest head taken ended) in
    inr (inr (file_layout head, named_known before head known, layout, (loads.0, false, known_loads (file_layout head) limit loads.0 false false before head result known loads.1)))

-- what holds without a fault holds if there is none
pub at_none : {X : Type 0} (fault : Option X) (P : Type 0) → IfNone fault P → ((x : X) → fault ≡ Some x → ⊥) → P
at_none None P holds none = holds
at_none (Some x) P holds none = absurd (none x refl)

-- what a cursor at the beginning has left
pub cursor_left : (position : ℕ) (inner head : List ℕ) → position ≡ 0 → inner ≡ head → option_map (drop position) (Some inner) ≡ Some head
cursor_left position inner head first same = rw (first, same) refl

-- what a chain of two readers has left, where the first one isn't done
abbrev pub behind : Option (List ℕ) → Option (List ℕ) → Option (List ℕ)
behind first second =
    let chain : Chain (Option (List ℕ)) (Option (List ℕ)) = record { a_done = first; b_done = second; is_first_done = false } in chain_remaining (λ (o : Option (List ℕ)). o) (λ (o : Option (List ℕ)). o) chain

-- a byte of what comes first is the same byte of all
front_byte : (head rest : List ℕ) (i : ℕ) → i < length head → slice_get (head ++ rest) i ≡ slice_get head i
front_byte [] rest i within = absurd (omega (arith, within))
front_byte (x ∷ head) rest zero within = refl
front_byte (x ∷ head) rest (suc i) within = front_byte head rest i (omega (arith, within))

module _ (limit : ℕ) (is_reduced : Bool) (after : Option (List ℕ)) (failed cut : Bool) (result : Result AnyCedar CedarPersistenceError) where
  -- a load of the first bytes and of what is behind them is one of the file
  long_loads : (seen rest whole : Option (List ℕ)) (head : List ℕ) → Consumes seen rest head → whole ≡ behind (Some head) rest
      → LoadsBy table_in (layout_for is_reduced) most_slots limit whole after failed cut result → LoadsBy table_in (layout_for is_reduced) most_slots limit seen after failed cut result
  long_loads None rest whole head taken joined loads = untold_loads (layout_for is_reduced) limit after failed cut whole result loads
  long_loads (Some known) None whole head taken joined loads = absurd taken
  long_loads (Some known) (Some rest) whole head taken joined loads =
      subst (λ o. LoadsBy table_in (layout_for is_reduced) most_slots limit o after failed cut result) (joined ∙ ap (λ (bs : List ℕ). Some bs) (sym taken)) loads

  long_named : (seen rest : Option (List ℕ)) (head : List ℕ) → Consumes seen rest head → 13 < length head → is_reduced ≡ names_reduced_layout (slice_get head 13) → NamesLayout (layout_for is_reduced) seen
  long_named None rest head taken long named = tt
  long_named (Some known) None head taken long named = absurd taken
  long_named (Some known) (Some rest) head taken long named =
      ap layout_for (named ∙ ap names_reduced_layout (sym (front_byte head rest 13 long))) ∙ ap file_layout (sym taken)

  pub loads_long : (before seen rest whole : Option (List ℕ)) (head : List ℕ) → seen ≡ before → Consumes seen rest head → whole ≡ behind (Some head) rest → 13 < length head
      → is_reduced ≡ names_reduced_layout (slice_get head 13) → IfOk result (λ a. inner_layout a ≡ layout_for is_reduced) → LoadsBy table_in (layout_for is_reduced) most_slots limit whole after failed cut result
      → cut ≡ false → LoadsAnyOpened limit before result
  loads_long before seen rest whole head same taken joined long named layout loads uncut =
      let kind = layout_for is_reduced in
      let all = subst (λ o. LoadsBy table_in kind most_slots limit o after failed cut result) same (long_loads seen rest whole head taken joined loads) in
      let sound = subst (λ b. LoadsBy table_in kind most_slots limit before after failed b result) uncut all in
      inr (inr (kind, subst (NamesLayout kind) same (long_named seen rest head taken long named), layout, (after, failed, sound)))

-- a load by path is one of the file that was opened
pub loads_any_from : {F T : Type 0} (limit : ℕ) (remaining : T → Option (List ℕ)) (path : List ℕ) (opened : FileToRead F T) (file : T) (result : Result AnyCedar CedarPersistenceError)
    → read_calls opened ≡ opened_to_read path ∷ [] → file ≡ file_to_read opened → LoadsAnyOpened limit (remaining file) result → LoadsAnyFrom F limit remaining path result
loads_any_from limit remaining path opened file result noted same loads =
    inr (opened, noted, subst (λ f. LoadsAnyOpened limit (remaining f) result) same loads)
