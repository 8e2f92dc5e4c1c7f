-- Single statements, and the codes of their forms.
use Rattle.std.proofs.Common.{◌≡◌, Some, None, ◌++◌, refl, codes}
use Rattle.config_rules.specs.Cut.{parts_within}
use Rattle.config_rules.specs.Form.{table, form_of, form_fault, is_left_out}
use Rattle.config_rules.proofs.VectorWords.{form_code, many}

-- each statement has a form
each_statement : (form_code (codes "define pcibus {[bus = -1]}") ≡ None)
    × (form_code (codes "devclass disk") ≡ None)
    × (form_code (codes "defpseudo loop: ifnet") ≡ None)
    × (form_code (codes "device com: tty") ≡ None)
    × (form_code (codes "attach com at isa with com_isa") ≡ None)
    × (form_code (codes "com0 at isa? port 0x3f8 flags 1") ≡ None)
    × (form_code (codes "no com0 at isa?") ≡ None)
    × (form_code (codes "no device at isa?") ≡ None)
    × (form_code (codes "no options DDB, SIZE") ≡ None)
    × (form_code (codes "no makeoptions DEBUG") ≡ None)
    × (form_code (codes "no file-system FFS") ≡ None)
    × (form_code (codes "no pseudo-device loop") ≡ None)
    × (form_code (codes "options DDB, SIZE=512") ≡ None)
    × (form_code (codes "makeoptions DEBUG=\"-g\", COPTS+=\"-O2\"") ≡ None)
    × (form_code (codes "file-system FFS, NFS") ≡ None)
    × (form_code (codes "pseudo-device loop 2") ≡ None)
    × (form_code (codes "include \"conf/files\"") ≡ None)
    × (form_code (codes "cinclude \"local\"") ≡ None)
    × (form_code (codes "prefix dev/pci") ≡ None)
    × (form_code (codes "prefix") ≡ None)
    × (form_code (codes "ifdef isa") ≡ None)
    × (form_code (codes "ifndef isa") ≡ None)
    × (form_code (codes "elifdef isa") ≡ None)
    × (form_code (codes "elifndef isa") ≡ None)
    × (form_code (codes "else") ≡ None)
    × (form_code (codes "endif") ≡ None)
    × (form_code (codes "maxusers 2 16 128") ≡ None)
    × (form_code (codes "maxusers 64") ≡ None)
    × (form_code (codes "maxpartitions 16") ≡ None)
    × (form_code (codes "machine amd64 x86") ≡ None)
    × (form_code (codes "ident \"GENERIC\"") ≡ None)
    × (form_code (codes "config netbsd root on ? type ?") ≡ None)
    × (form_code (codes "defflag opt_ddb.h DDB") ≡ None)
    × (form_code (codes "defparam opt_ddb.h SIZE = 100") ≡ None)
    × (form_code (codes "deffs FFS NFS") ≡ None)
    × (form_code (codes "file dev/ic/com.c com needs-flag") ≡ None)
    × (form_code (codes "device-major com char 8") ≡ None)
    × (form_code (codes "version 20240101") ≡ None)
    × (form_code (codes "obsolete defflag X") ≡ None)
unfolding parts_within table form_of is_left_out form_fault
each_statement = (refl, refl, refl, refl, refl, refl, refl, refl, refl, refl, refl, refl, refl, refl, refl, refl, refl, refl, refl, refl, refl, refl, refl, refl, refl, refl, refl, refl, refl, refl, refl, refl, refl, refl, refl, refl, refl, refl, refl)

-- these are left out
left_out : (form_code (codes "package \"net/files\"") ≡ Some 7)
    × (form_code (codes "object x.o") ≡ Some 7)
    × (form_code (codes "ioconf x") ≡ Some 7)
    × (form_code (codes "select x") ≡ Some 7)
    × (form_code (codes "pseudo-root x") ≡ Some 7)
    × (form_code (codes "buildprefix x") ≡ Some 7)
unfolding parts_within table form_of is_left_out form_fault
left_out = (refl, refl, refl, refl, refl, refl)

-- and these have none
no_form : (form_code (codes "define") ≡ Some 6)
    × (form_code (codes "devclass a b") ≡ Some 6)
    × (form_code (codes "defpseudo") ≡ Some 6)
    × (form_code (codes "device com0") ≡ Some 6)
    × (form_code (codes "device com isa") ≡ Some 6)
    × (form_code (codes "attach d") ≡ Some 6)
    × (form_code (codes "attach d at") ≡ Some 6)
    × (form_code (codes "com0") ≡ Some 6)
    × (form_code (codes "com0 at") ≡ Some 6)
    × (form_code (codes "com0 at isa") ≡ Some 6)
    × (form_code (codes "com? at isa0") ≡ Some 6)
    × (form_code (codes "no") ≡ Some 6)
    × (form_code (codes "no com0 isa0") ≡ Some 6)
    × (form_code (codes "no options") ≡ Some 6)
    × (form_code (codes "options") ≡ Some 6)
    × (form_code (codes "options A=") ≡ Some 6)
    × (form_code (codes "makeoptions A") ≡ Some 6)
    × (form_code (codes "file-system") ≡ Some 6)
    × (form_code (codes "pseudo-device") ≡ Some 6)
    × (form_code (codes "pseudo-device loop 1 2") ≡ Some 6)
    × (form_code (codes "include") ≡ Some 6)
    × (form_code (codes "include a b") ≡ Some 6)
    × (form_code (codes "prefix a b") ≡ Some 6)
    × (form_code (codes "ifdef") ≡ Some 6)
    × (form_code (codes "ifdef a b") ≡ Some 6)
    × (form_code (codes "else a") ≡ Some 6)
    × (form_code (codes "endif a") ≡ Some 6)
    × (form_code (codes "maxusers") ≡ Some 6)
    × (form_code (codes "maxusers 1 2") ≡ Some 6)
    × (form_code (codes "maxpartitions") ≡ Some 6)
    × (form_code (codes "machine") ≡ Some 6)
    × (form_code (codes "machine \"x\"") ≡ Some 6)
    × (form_code (codes "ident") ≡ Some 6)
    × (form_code (codes "config netbsd root on") ≡ Some 6)
    × (form_code (codes "config netbsd on root ?") ≡ Some 6)
    × (form_code (codes "defflag") ≡ Some 6)
    × (form_code (codes "file") ≡ Some 6)
    × (form_code (codes "version") ≡ Some 6)
unfolding parts_within table form_of is_left_out form_fault
no_form = (refl, refl, refl, refl, refl, refl, refl, refl, refl, refl, refl, refl, refl, refl, refl, refl, refl, refl, refl, refl, refl, refl, refl, refl, refl, refl, refl, refl, refl, refl, refl, refl, refl, refl, refl, refl, refl, refl)

-- a written name has at most 63 bytes
long_names : (form_code (codes "define " ++ many 63) ≡ None)
    × (form_code (codes "define " ++ many 64) ≡ Some 6)
unfolding parts_within table form_of is_left_out form_fault
long_names = (refl, refl)

-- a unit above 65535 is out of its range, a unit with a leading zero or a base that is too long has no form
unit_numbers : (form_code (codes "com65535 at root") ≡ None)
    × (form_code (codes "com65536 at root") ≡ Some 5)
    × (form_code (codes "com00 at root") ≡ Some 6)
    × (form_code (codes "com099999 at root") ≡ Some 6)
    × (form_code (many 64 ++ codes "70000 at root") ≡ Some 6)
unfolding parts_within table form_of is_left_out form_fault
unit_numbers = (refl, refl, refl, refl, refl)

-- a statement that begins with a string or a mark has no form, whatever the string is
no_chunk_first : (form_code (codes "package x") ≡ Some 7)
    × (form_code (codes "\"package\" x") ≡ Some 6)
    × (form_code (codes "\"foo\" bar baz qux \"x\"") ≡ Some 6)
    × (form_code (codes ", x") ≡ Some 6)
unfolding parts_within table form_of is_left_out form_fault
no_chunk_first = (refl, refl, refl, refl)

-- no word is reserved as a name
words_as_names : (form_code (codes "attach at at at with with") ≡ None)
    × (form_code (codes "device options") ≡ None)
    × (form_code (codes "options0 at root") ≡ None)
unfolding parts_within table form_of is_left_out form_fault
words_as_names = (refl, refl, refl)

-- but `flags` names no locator, and stands at the end of the pairs
flags_is_no_locator : (form_code (codes "define a {flags}") ≡ Some 6)
    × (form_code (codes "define a {flags = 1}") ≡ Some 6)
    × (form_code (codes "com0 at root flags ?") ≡ Some 6)
    × (form_code (codes "com0 at root flags 1 port 2") ≡ Some 6)
    × (form_code (codes "com0 at root port 2 flags 1") ≡ None)
unfolding parts_within table form_of is_left_out form_fault
flags_is_no_locator = (refl, refl, refl, refl, refl)

-- a range is looked for only where the whole form is right, and statements that are left out before all lengths
form_before_range : (form_code (codes "maxusers 99999999999") ≡ Some 5)
    × (form_code (codes "maxusers 99999999999 x") ≡ Some 6)
    × (form_code (codes "com0 at root flags 4294967296 x") ≡ Some 6)
    × (form_code (codes "pseudo-device loop 0") ≡ Some 5)
    × (form_code (codes "package " ++ many 1024) ≡ Some 7)
unfolding parts_within table form_of is_left_out form_fault
form_before_range = (refl, refl, refl, refl, refl)

-- a string behind a name from the fourth token on, in a statement that begins with no word of the table
string_for_a_locator : (form_code (codes "com0 at isa? port \"x\"") ≡ Some 7)
    × (form_code (codes "foo bar baz qux \"x\"") ≡ Some 7)
    × (form_code (codes "foo bar \"x\"") ≡ Some 6)
    × (form_code (codes "com0 at isa? flags \"x\"") ≡ Some 6)
    × (form_code (codes "no d0 at x qux \"x\"") ≡ Some 6)
    × (form_code (codes "attach d at x qux \"x\"") ≡ Some 6)
unfolding parts_within table form_of is_left_out form_fault
string_for_a_locator = (refl, refl, refl, refl, refl, refl)

-- a string or a size within the braces of a definition
string_or_size_in_a_list : (form_code (codes "define a {n = \"x\"}") ≡ Some 7)
    × (form_code (codes "device d {n = \"x\"") ≡ Some 7)
    × (form_code (codes "defpseudo a {n[2]}") ≡ Some 7)
    × (form_code (codes "define a {flags = \"x\"}") ≡ Some 6)
    × (form_code (codes "define a {flags[2]}") ≡ Some 6)
    × (form_code (codes "define a: b = \"x\"") ≡ Some 6)
    × (form_code (codes "define a {b}, c = \"x\"") ≡ Some 6)
    × (form_code (codes "devclass d {n = \"x\"}") ≡ Some 6)
unfolding parts_within table form_of is_left_out form_fault
string_or_size_in_a_list = (refl, refl, refl, refl, refl, refl, refl, refl)

-- a token has at most 1023 bytes in every statement, and the quotes of a string do not count
long_tokens : (form_code (codes "file " ++ many 1023) ≡ None)
    × (form_code (codes "file " ++ many 1024) ≡ Some 6)
    × (form_code (codes "file \"" ++ many 1023 ++ codes "\"") ≡ None)
    × (form_code (codes "file \"" ++ many 1024 ++ codes "\"") ≡ Some 6)
unfolding parts_within table form_of is_left_out form_fault
long_tokens = (refl, refl, refl, refl)

-- the value of an option is no number, and may be any chunk
values_of_options : (form_code (codes "options A=99999999999, B=?, C=$x") ≡ None)
    × (form_code (codes "options A+=1") ≡ Some 6)
    × (form_code (codes "makeoptions A+=1") ≡ None)
unfolding parts_within table form_of is_left_out form_fault
values_of_options = (refl, refl, refl)

-- a string may be empty as a value and nowhere else
empty_strings : (form_code (codes "options A=\"\"") ≡ None)
    × (form_code (codes "makeoptions A=\"\"") ≡ None)
    × (form_code (codes "ident \"\"") ≡ Some 6)
    × (form_code (codes "include \"\"") ≡ Some 6)
    × (form_code (codes "prefix \"\"") ≡ Some 6)
unfolding parts_within table form_of is_left_out form_fault
empty_strings = (refl, refl, refl, refl, refl)

-- lists of names may repeat one
names_twice : (form_code (codes "device d: a, a") ≡ None)
    × (form_code (codes "attach d at root, root") ≡ None)
    × (form_code (codes "options A, A") ≡ None)
unfolding parts_within table form_of is_left_out form_fault
names_twice = (refl, refl, refl)

-- a list has at most 16 locators, and an instance any number of pairs
many_locators : (form_code (codes "define a {l0, l1, l2, l3, l4, l5, l6, l7, l8, l9, l10, l11, l12, l13, l14, l15}") ≡ None)
    × (form_code (codes "define a {l0, l1, l2, l3, l4, l5, l6, l7, l8, l9, l10, l11, l12, l13, l14, l15, m}") ≡ Some 6)
    × (form_code (codes "d0 at a? b 1 b 1 b 1 b 1 b 1 b 1 b 1 b 1 b 1 b 1 b 1 b 1 b 1 b 1 b 1 b 1 b 1") ≡ None)
unfolding parts_within table form_of is_left_out form_fault
many_locators = (refl, refl, refl)

-- `with` may be a place, and a name behind it ends the places
places_of_with : (form_code (codes "attach d at with") ≡ None)
    × (form_code (codes "attach d at a, with") ≡ None)
    × (form_code (codes "attach d at with x") ≡ Some 6)
    × (form_code (codes "attach d at a with b with c") ≡ Some 6)
unfolding parts_within table form_of is_left_out form_fault
places_of_with = (refl, refl, refl, refl)
