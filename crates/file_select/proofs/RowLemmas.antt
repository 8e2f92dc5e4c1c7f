-- What rows name, and that it is there.
use Rattle.std.proofs.Common.{◌≡◌, ◌==◌, ◌||◌, ◌⊎◌, inl, inr, ℕ, ◌+◌, ◌<◌, zero, suc, arith, Bool, true, false, cond, Option, Some, None, List, [], ◌∷◌, ◌++◌, length, get_or, map, refl, ap, sym, subst, ◌∙◌, append-nil}
use Rattle.std.specs.Prelude.{filter, flat_map, slice_get, IfSome}
use Rattle.std.specs.List.{All, list_any}
use Rattle.std.specs.Option.{option_map_or, option_to_list}
use Rattle.std.specs.Str.{bytes_eq}
use Rattle.std.proofs.lemmas.Bool.{eqb-true, eq-eqb}
use Rattle.std.proofs.lemmas.List.{map-append}
use Rattle.std.proofs.lemmas.List.Folds.{list_any-append}
use Rattle.std.proofs.lemmas.List.Elements.{All-append, All-cons, All-filter, All-head, All-nil, All-tail, All-push, All-weaker}
use Rattle.cf_types.proofs.ListLemmas.{all_at}
use Rattle.cf_types.proofs.OfferLemmas.{compare_numbers, is_in-append}
use Rattle.cf_types.proofs.TestLemmas.{equal_itself, same_answer}
use Rattle.cf_types.specs.Gather.{is_in}
use Rattle.cf_types.specs.Numbers.{below}
use Rattle.cf_types.specs.Offers.{named_by}
use Rattle.cf_types.specs.declared.tables.Attach.{Attach}
use Rattle.cf_types.specs.declared.tables.Attr.{Attr}
use Rattle.cf_types.specs.declared.tables.Device.{Device}
use Rattle.cf_types.specs.declared.stmt.Item.{Item}
use Rattle.cf_types.specs.declared.tables.Row.{Row}
use Rattle.std.specs.Str.{str_to_ascii_lowercase}
use Rattle.cf_types.specs.declared.tables.Tables.{Tables}
use Rattle.config_rules.specs.Formed.{FormedTables}
use Rattle.config_rules.specs.Select.{has_name}
use Rattle.file_rules.specs.Chosen.{attach_in, attr_name, chosen_names, device_in, is_chosen, item_names, named_attrs, reached_attrs, row_attrs, row_names, wanted_attrs}
use Rattle.file_select.specs.Texts.{with_texts}
use Rattle.file_select.proofs.MarkLemmas.{filter_below, in_cases, in_left, in_right, named_at}
use Rattle.file_select.proofs.TextLemmas.{has-with_texts, with_texts-append}

pub front_all : {X : Type 0} (P : X → Type 0) (xs ys : List X) → All P (xs ++ ys) → All P xs
front_all P [] ys h = All-nil P
front_all P (x ∷ xs) ys h = All-cons P x xs (All-head P x (xs ++ ys) h) (front_all P xs ys (All-tail P x (xs ++ ys) h))

pub back_all : {X : Type 0} (P : X → Type 0) (xs ys : List X) → All P (xs ++ ys) → All P ys
back_all P [] ys h = h
back_all P (x ∷ xs) ys h = back_all P xs ys (All-tail P x (xs ++ ys) h)

flat_all : {X Y : Type 0} (P : Y → Type 0) (f : X → List Y) (xs : List X) → ((x : X) → All P (f x)) → All P (flat_map f xs)
flat_all P f [] h = All-nil P
flat_all P f (x ∷ xs) h = All-append P (f x) (flat_map f xs) (h x) (flat_all P f xs h)

below_all : (n : ℕ) → All (λ a. a < n) (below n)
below_all zero = All-nil (λ a. a < 0)
below_all (suc n) = All-push (λ a. a < suc n) (below n) n (All-weaker (λ a. a < n) (λ a. a < suc n) (λ a h. omega arith) (below n) (below_all n)) (omega arith)

-- ---- numbers in range

own_within : (n : ℕ) (o : Option ℕ) → IfSome o (λ a. a < n) → All (λ a. a < n) (option_map_or (λ a. a ∷ []) o [])
own_within n None h = All-nil (λ a. a < n)
own_within n (Some a) h = All-cons (λ b. b < n) a [] h (All-nil (λ b. b < n))

device_within : (t : Tables) → FormedTables t → (d : Device) (i : ℕ) → slice_get t.devices i ≡ Some d → All (λ a. a < length t.attrs) (named_by d)
device_within t f d i e =
    All-append (λ a. a < length t.attrs) (option_map_or (λ a. a ∷ []) d.own []) d.needs
    (own_within (length t.attrs) d.own (all_at (λ x. IfSome x.own (λ a. a < length t.attrs)) t.devices i d f.graph.own e))
    (all_at (λ x. All (λ a. a < length t.attrs) x.needs) t.devices i d f.graph.device_needs e)

devices_within : (t : Tables) → FormedTables t → (i : ℕ) (o : Option Device) → slice_get t.devices i ≡ o → All (λ a. a < length t.attrs) (flat_map named_by (option_to_list o))
devices_within t f i None e = All-nil (λ a. a < length t.attrs)
devices_within t f i (Some d) e = All-append (λ a. a < length t.attrs) (named_by d) [] (device_within t f d i e) (All-nil (λ a. a < length t.attrs))

attaches_within : (t : Tables) → FormedTables t → (i : ℕ) (o : Option Attach) → slice_get t.attaches i ≡ o → All (λ a. a < length t.attrs) (flat_map (λ x. x.needs) (option_to_list o))
attaches_within t f i None e = All-nil (λ a. a < length t.attrs)
attaches_within t f i (Some x) e =
    All-append (λ a. a < length t.attrs) x.needs [] (all_at (λ y. All (λ a. a < length t.attrs) y.needs) t.attaches i x f.attach_needs e) (All-nil (λ a. a < length t.attrs))

row_within : (t : Tables) → FormedTables t → (r : Row) → All (λ a. a < length t.attrs) (row_attrs t r)
row_within t f r =
    All-append (λ a. a < length t.attrs) (flat_map named_by (device_in t.devices r)) (flat_map (λ x. x.needs) (attach_in t.attaches r))
    (devices_within t f r.device (slice_get t.devices r.device) refl) (attaches_within t f r.attach (slice_get t.attaches r.attach) refl)

-- the attributes that are wanted are there
pub wanted_within : (t : Tables) → FormedTables t → All (λ a. a < length t.attrs) (wanted_attrs t)
wanted_within t f =
    All-append (λ a. a < length t.attrs) (flat_map (row_attrs t) t.rows) (named_attrs t.attrs (map (λ p. p.name) t.pseudos))
    (flat_all (λ a. a < length t.attrs) (row_attrs t) t.rows (row_within t f))
    (All-filter (λ a. has_name (map (λ p. p.name) t.pseudos) (attr_name t.attrs a)) (λ a. a < length t.attrs) (below (length t.attrs)) (below_all (length t.attrs)))

-- its attachment is there
pub attach_in_range : (xs : List Attach) (i d : ℕ) → option_map_or (λ x. x.device == d) (slice_get xs i) false ≡ true → i < length xs
attach_in_range [] i d h = absurd (cc)
attach_in_range (x ∷ xs) zero d h = omega arith
attach_in_range (x ∷ xs) (suc i) d h = let rest = attach_in_range xs i d h in omega arith

-- those of its device, and of its attachment
pub row_device_within : (t : Tables) → FormedTables t → (r : Row) (ds : List Device) (n : ℕ) → n ≡ length t.attrs → ds ≡ t.devices → All (λ a. a < n) (flat_map named_by (device_in ds r))
row_device_within t f r ds n size e =
    subst (λ (xs : List Device). All (λ a. a < n) (flat_map named_by (device_in xs r))) (sym e)
    (subst (λ (m : ℕ). All (λ a. a < m) (flat_map named_by (device_in t.devices r))) (sym size) (devices_within t f r.device (slice_get t.devices r.device) refl))

pub row_attach_within : (t : Tables) → FormedTables t → (r : Row) (xs : List Attach) (n : ℕ) → n ≡ length t.attrs → xs ≡ t.attaches → All (λ a. a < n) (flat_map (λ x. x.needs) (attach_in xs r))
row_attach_within t f r xs n size e =
    subst (λ (ys : List Attach). All (λ a. a < n) (flat_map (λ x. x.needs) (attach_in ys r))) (sym e)
    (subst (λ (m : ℕ). All (λ a. a < m) (flat_map (λ x. x.needs) (attach_in t.attaches r))) (sym size) (attaches_within t f r.attach (slice_get t.attaches r.attach) refl))

-- the device of a row
pub device_there : (t : Tables) → FormedTables t → (r : Row) (d : Device) (n : ℕ) → n ≡ length t.attrs → device_in t.devices r ≡ d ∷ [] → All (λ a. a < n) (named_by d)
device_there t f r d n size e =
    let all : All (λ a. a < length t.attrs) (flat_map named_by (d ∷ [])) = subst (λ (ds : List Device). All (λ a. a < length t.attrs) (flat_map named_by ds)) e (devices_within t f r.device (slice_get t.devices r.device) refl) in
    subst (λ (m : ℕ). All (λ a. a < m) (named_by d)) (sym size) (front_all (λ a. a < length t.attrs) (named_by d) [] all)

-- its attachment
pub attach_there : (t : Tables) → FormedTables t → (r : Row) (x : Attach) (n : ℕ) → n ≡ length t.attrs → attach_in t.attaches r ≡ x ∷ [] → All (λ a. a < n) x.needs
attach_there t f r x n size e =
    let all : All (λ a. a < length t.attrs) (flat_map (λ (y : Attach). y.needs) (x ∷ [])) = subst (λ (ds : List Attach). All (λ a. a < length t.attrs) (flat_map (λ y. y.needs) ds)) e (attaches_within t f r.attach (slice_get t.attaches r.attach) refl) in
    subst (λ (m : ℕ). All (λ a. a < m) x.needs) (sym size) (front_all (λ a. a < length t.attrs) x.needs [] all)

-- what a row wants
pub row_attrs_are : (t : Tables) (r : Row) (d : Device) (x : Attach) → device_in t.devices r ≡ d ∷ [] → attach_in t.attaches r ≡ x ∷ [] → row_attrs t r ≡ named_by d ++ x.needs
row_attrs_are t r d x e g =
    ap (λ ds. flat_map named_by ds ++ flat_map (λ y. y.needs) (attach_in t.attaches r)) e
    ∙ ap (λ (ys : List Attach). (named_by d ++ []) ++ flat_map (λ y. y.needs) ys) g
    ∙ ap (λ xs. xs ++ (x.needs ++ [])) (append-nil (named_by d)) ∙ ap (λ xs. named_by d ++ xs) (append-nil x.needs)

pub row_names_are : (t : Tables) (r : Row) (d : Device) (x : Attach) → device_in t.devices r ≡ d ∷ [] → attach_in t.attaches r ≡ x ∷ [] → row_names t r ≡ d.name ∷ x.name ∷ []
row_names_are t r d x e g =
    ap (λ (ds : List Device). map (λ y. y.name) ds ++ map (λ y. y.name) (attach_in t.attaches r)) e ∙ ap (λ (ys : List Attach). d.name ∷ map (λ y. y.name) ys) g

-- the attributes of the same names
pub named_attrs_same : (attrs : List Attr) (ns ms : List (List ℕ)) → ((name : List ℕ) → has_name ns name ≡ has_name ms name) → named_attrs attrs ns ≡ named_attrs attrs ms
named_attrs_same attrs ns ms h = by (below (length attrs))
  where
    one : (a : ℕ) (xs ys : List ℕ) → xs ≡ ys → cond (has_name ns (attr_name attrs a)) (a ∷ xs) xs ≡ cond (has_name ms (attr_name attrs a)) (a ∷ ys) ys
    one a xs ys e = ap (λ b. cond b (a ∷ xs) xs) (h (attr_name attrs a)) ∙ ap (λ zs. cond (has_name ms (attr_name attrs a)) (a ∷ zs) zs) e

    by : (xs : List ℕ) → filter (λ a. has_name ns (attr_name attrs a)) xs ≡ filter (λ a. has_name ms (attr_name attrs a)) xs
    by [] = refl
    by (x ∷ xs) = one x _ _ (by xs)

-- ---- all names

any_of_map : (f : ℕ → List ℕ) (name : List ℕ) (xs : List ℕ) → has_name (map f xs) name ≡ list_any (λ a. bytes_eq (f a) name) xs
any_of_map f name [] = refl
any_of_map f name (x ∷ xs) = ap (λ b. bytes_eq (f x) name || b) (any_of_map f name xs)

any_with : (q : ℕ → Bool) (xs : List ℕ) → list_any q xs ≡ true → (a : ℕ) × (is_in a xs ≡ true) × (q a ≡ true)
any_with q [] h = absurd (cc)
any_with q (x ∷ xs) h = by (in_cases (q x) (list_any q xs) h) (any_with q xs)
  where
    by : (q x ≡ true) ⊎ (list_any q xs ≡ true) → (list_any q xs ≡ true → (a : ℕ) × (is_in a xs ≡ true) × (q a ≡ true)) → (a : ℕ) × (is_in a (x ∷ xs) ≡ true) × (q a ≡ true)
    by (inl k) later = (x, in_left (x == x) (is_in x xs) (equal_itself x), k)
    by (inr k) later = let r = later k in (r.0, in_right (x == r.0) (is_in r.0 xs) r.1, r.2)

any_in : (q : ℕ → Bool) (xs : List ℕ) (a : ℕ) → is_in a xs ≡ true → q a ≡ true → list_any q xs ≡ true
any_in q [] a h k = absurd (cc)
any_in q (x ∷ xs) a h k = by (in_cases (x == a) (is_in a xs) h) (λ e. any_in q xs a e k)
  where
    by : ((x == a) ≡ true) ⊎ (is_in a xs ≡ true) → (is_in a xs ≡ true → list_any q xs ≡ true) → (q x || list_any q xs) ≡ true
    by (inl e) later = in_left (q x) (list_any q xs) (ap q (eqb-true x a e) ∙ k)
    by (inr e) later = in_right (q x) (list_any q xs) (later e)

filtered_in : (m : ℕ → Bool) (xs : List ℕ) (a : ℕ) → is_in a xs ≡ true → m a ≡ true → is_in a (filter m xs) ≡ true
filtered_in m [] a h k = absurd (cc)
filtered_in m (x ∷ xs) a h k = by (m x) refl (in_cases (x == a) (is_in a xs) h) (λ e. filtered_in m xs a e k)
  where
    by : (b : Bool) → m x ≡ b → ((x == a) ≡ true) ⊎ (is_in a xs ≡ true) → (is_in a xs ≡ true → is_in a (filter m xs) ≡ true) → is_in a (cond b (x ∷ filter m xs) (filter m xs)) ≡ true
    by true e (inl s) later = in_left (x == a) (is_in a (filter m xs)) s
    by true e (inr s) later = in_right (x == a) (is_in a (filter m xs)) (later s)
    by false e (inl s) later = let t : m x ≡ true = ap m (eqb-true x a s) ∙ k in absurd (cc)
    by false e (inr s) later = later s

head_or : (m : ℕ → Bool) (x a : ℕ) (xs : List ℕ) → m x ≡ true → ((x == a) ≡ true) ⊎ (is_in a xs ≡ true) → (is_in a xs ≡ true → m a ≡ true) → m a ≡ true
head_or m x a xs e (inl s) later = ap m (sym (eqb-true x a s)) ∙ e
head_or m x a xs e (inr s) later = later s

in_filtered : (m : ℕ → Bool) (xs : List ℕ) (a : ℕ) → is_in a (filter m xs) ≡ true → m a ≡ true
in_filtered m [] a h = absurd (cc)
in_filtered m (x ∷ xs) a h = by (m x) refl h (in_filtered m xs a)
  where
    by : (b : Bool) → m x ≡ b → is_in a (cond b (x ∷ filter m xs) (filter m xs)) ≡ true → (is_in a (filter m xs) ≡ true → m a ≡ true) → m a ≡ true
    by true e k later = head_or m x a (filter m xs) e (in_cases (x == a) (is_in a (filter m xs)) k) later
    by false e k later = later k

in_below : (n a : ℕ) → a < n → is_in a (below n) ≡ true
in_below zero a h = absurd (omega arith)
in_below (suc n) a h = is_in-append a (below n) (n ∷ []) ∙ by (last_or (compare_numbers a n)) (in_below n a)
  where
    last_or : (a < n) ⊎ ((a ≡ n) ⊎ (n < a)) → (a < n) ⊎ (n ≡ a)
    last_or (inl l) = inl l
    last_or (inr (inl e)) = inr (sym e)
    last_or (inr (inr g)) = absurd (omega arith)

    by : (a < n) ⊎ (n ≡ a) → (a < n → is_in a (below n) ≡ true) → (is_in a (below n) || ((n == a) || false)) ≡ true
    by (inl l) later = in_left (is_in a (below n)) ((n == a) || false) (later l)
    by (inr e) later = in_right (is_in a (below n)) ((n == a) || false) (in_left (n == a) false (eq-eqb n a e))

marked_within : (marks : List Bool) (a : ℕ) → get_or marks a false ≡ true → a < length marks
marked_within [] a h = absurd (cc)
marked_within (m ∷ marks) zero h = omega arith
marked_within (m ∷ marks) (suc a) h = let l = marked_within marks a h in omega (arith, l)

-- the names of the attributes that are marked
marked_names : (attrs : List Attr) (marks : List Bool) (reached : List ℕ) (name : List ℕ) → length marks ≡ length attrs → ((a : ℕ) → get_or marks a false ≡ is_in a reached) → has_name (map (attr_name attrs) (filter (λ a. get_or marks a false) (below (length attrs)))) name ≡ has_name (map (attr_name attrs) reached) name
marked_names attrs marks reached name size h =
    let q : ℕ → Bool = λ a. bytes_eq (attr_name attrs a) name in
    let m : ℕ → Bool = λ a. get_or marks a false in
    any_of_map (attr_name attrs) name (filter m (below (length attrs)))
    ∙ same_answer (list_any q (filter m (below (length attrs)))) (list_any q reached)
    (λ t. let r = any_with q (filter m (below (length attrs))) t in any_in q reached r.0 (sym (h r.0) ∙ in_filtered m (below (length attrs)) r.0 r.1) r.2)
    (λ t. let r = any_with q reached t in let marked : m r.0 ≡ true = h r.0 ∙ r.1 in
    any_in q (filter m (below (length attrs))) r.0 (filtered_in m (below (length attrs)) r.0 (in_below (length attrs) r.0 (subst (λ (n : ℕ). r.0 < n) size (marked_within marks r.0 marked))) marked) r.2)
    ∙ sym (any_of_map (attr_name attrs) name reached)

-- what is inserted is what is chosen
pub all_chosen : (t : Tables) (marks : List Bool) (name : List ℕ) → length marks ≡ length t.attrs → ((a : ℕ) → get_or marks a false ≡ is_in a (reached_attrs t))
    → has_name (with_texts (with_texts (with_texts [] (flat_map (row_names t) t.rows)) (map (attr_name t.attrs) (filter (λ a. get_or marks a false) (below (length t.attrs))))) (item_names t)) name ≡ is_chosen t name
unfolding chosen_names
all_chosen t marks name size h =
    let rows = flat_map (row_names t) t.rows in
    let marked = map (attr_name t.attrs) (filter (λ a. get_or marks a false) (below (length t.attrs))) in
    let reached = map (attr_name t.attrs) (reached_attrs t) in
    has-with_texts (with_texts (with_texts [] rows) marked) (item_names t) name
    ∙ ap (λ b. b || has_name (item_names t) name) (has-with_texts (with_texts [] rows) marked name)
    ∙ ap (λ b. (b || has_name marked name) || has_name (item_names t) name) (has-with_texts [] rows name)
    ∙ ap (λ b. (has_name rows name || b) || has_name (item_names t) name) (marked_names t.attrs marks (reached_attrs t) name size h)
    ∙ ap (λ b. b || has_name (item_names t) name) (sym (list_any-append (λ n. bytes_eq n name) rows reached))
    ∙ sym (list_any-append (λ n. bytes_eq n name) (rows ++ reached) (item_names t))

map_cond : (f : ℕ → List ℕ) (b : Bool) (i : ℕ) → map f (cond b (i ∷ []) []) ≡ cond b (f i ∷ []) []
map_cond f true i = refl
map_cond f false i = refl

-- the name of one attribute more, if it is marked
pub inserted_marked : (attrs : List Attr) (marks : List Bool) (i : ℕ) (x : Attr) (first now new : List (List ℕ)) → i < length attrs → x ≡ get_or attrs i x → now ≡ with_texts first (map (attr_name attrs) (filter (λ a. get_or marks a false) (below i))) → new ≡ with_texts now (cond (get_or marks i false) (x.name ∷ []) []) → new ≡ with_texts first (map (attr_name attrs) (filter (λ a. get_or marks a false) (below (i + 1))))
inserted_marked attrs marks i x first now new h is so_far one =
    one ∙ ap (λ ts. with_texts ts (cond (get_or marks i false) (x.name ∷ []) [])) so_far
    ∙ ap (λ n. with_texts (with_texts first (map (attr_name attrs) (filter (λ a. get_or marks a false) (below i)))) (cond (get_or marks i false) (n ∷ []) [])) (sym (named_at attrs i x h is))
    ∙ sym (with_texts-append first (map (attr_name attrs) (filter (λ a. get_or marks a false) (below i))) (cond (get_or marks i false) (attr_name attrs i ∷ []) []))
    ∙ ap (with_texts first)
    (ap (λ ys. map (attr_name attrs) (filter (λ a. get_or marks a false) (below i)) ++ ys) (sym (map_cond (attr_name attrs) (get_or marks i false) i))
    ∙ sym (map-append (attr_name attrs) (filter (λ a. get_or marks a false) (below i)) (cond (get_or marks i false) (i ∷ []) []))
    ∙ ap (map (attr_name attrs)) (sym (filter_below (λ a. get_or marks a false) i)))

-- all names, one kind after the other
pub all_inserted : (t : Tables) (name : List ℕ) (s0 s1 s2 s3 s4 : List (List ℕ)) (attrs : List Attr) (marks : List Bool) (options : List Item) (file_systems : List (List ℕ)) → s0 ≡ []
    → s1 ≡ with_texts s0 (flat_map (row_names t) t.rows) → s2 ≡ with_texts s1 (map (attr_name attrs) (filter (λ a. get_or marks a false) (below (length attrs))))
    → s3 ≡ with_texts s2 (map str_to_ascii_lowercase (map (λ i. i.name) options)) → s4 ≡ with_texts s3 (map str_to_ascii_lowercase file_systems)
    → attrs ≡ t.attrs → options ≡ t.options → file_systems ≡ t.file_systems → length marks ≡ length t.attrs → ((a : ℕ) → get_or marks a false ≡ is_in a (reached_attrs t)) → has_name s4 name ≡ is_chosen t name
all_inserted t name s0 s1 s2 s3 s4 attrs marks options file_systems e0 e1 e2 e3 e4 ea eo ef size h =
    let marked : List Attr → List (List ℕ) = λ xs. map (attr_name xs) (filter (λ a. get_or marks a false) (below (length xs))) in
    let rows = flat_map (row_names t) t.rows in
    let lower_options = map str_to_ascii_lowercase (map (λ (i : Item). i.name) t.options) in
    let lower_systems = map str_to_ascii_lowercase t.file_systems in
    let two : s2 ≡ with_texts (with_texts [] rows) (marked t.attrs) = e2 ∙ ap (λ xs. with_texts s1 (marked xs)) ea ∙ ap (λ s. with_texts s (marked t.attrs)) (e1 ∙ ap (λ s. with_texts s rows) e0) in
    let all : s4 ≡ with_texts (with_texts (with_texts [] rows) (marked t.attrs)) (item_names t) =
    e4 ∙ ap (λ fs. with_texts s3 (map str_to_ascii_lowercase fs)) ef
    ∙ ap (λ s. with_texts s lower_systems) (e3 ∙ ap (λ (os : List Item). with_texts s2 (map str_to_ascii_lowercase (map (λ i. i.name) os))) eo ∙ ap (λ s. with_texts s lower_options) two)
    ∙ sym (with_texts-append (with_texts (with_texts [] rows) (marked t.attrs)) lower_options lower_systems)
    ∙ ap (with_texts (with_texts (with_texts [] rows) (marked t.attrs))) (sym (map-append str_to_ascii_lowercase (map (λ (i : Item). i.name) t.options) t.file_systems)) in
    ap (λ s. has_name s name) all ∙ all_chosen t marks name size h
