use Rattle.std.proofs.Common.{refl}
use Rattle.std.specs.Fmt.{digits}
use Rattle.hex.specs.Hex.{encode_with, decode_pairs}
use Rattle.px_model.specs.Rows.{key_cmp, same_key}
use Rattle.px_model.specs.Chains.{all_variations, base_rows, variations_of_table}
use Rattle.px_model.specs.Machine.{fresh, commits, view, published}
use Rattle.px_calls.specs.Texts.{reply_text, opened_line}
use Rattle.px_calls.specs.Steps.{begins_spent, has_table, fits_key, longest_body, fits_body, conflict_of, write_refusal, is_full, reply_of, state_when_done, state_after}
use Rattle.px_script.specs.Words.{number_of, bytes_of, body_of}
use Rattle.px_script.specs.Grammar.{line_of, command_line, requests_of}
use Rattle.px_script.specs.Lines.{complete_lines, open_line}
use Rattle.px_logged.specs.Logged.{logged}
use Rattle.px_play.specs.Input.{script_of}
use Rattle.px_play.specs.Playing.{pieces_of}
use Rattle.px_play.specs.Acknowledged.{acknowledged}
use Rattle.px_run.specs.Running.{run_pieces}
use Rattle.px_run.proofs.laws.a_small_run.Goals as goal

pub returns-clause-told : goal.returns-clause-told
unfolding digits encode_with decode_pairs number_of bytes_of body_of line_of command_line requests_of complete_lines open_line script_of run_pieces pieces_of acknowledged reply_text opened_line logged key_cmp same_key fresh commits view published begins_spent has_table fits_key longest_body fits_body conflict_of write_refusal is_full variations_of_table all_variations base_rows reply_of state_when_done state_after
returns-clause-told c = refl

pub returns-clause-frames : goal.returns-clause-frames
unfolding digits encode_with decode_pairs number_of bytes_of body_of line_of command_line requests_of complete_lines open_line script_of run_pieces pieces_of acknowledged reply_text opened_line logged key_cmp same_key fresh commits view published begins_spent has_table fits_key longest_body fits_body conflict_of write_refusal is_full variations_of_table all_variations base_rows reply_of state_when_done state_after
returns-clause-frames c = refl

pub returns-clause-commits : goal.returns-clause-commits
unfolding digits encode_with decode_pairs number_of bytes_of body_of line_of command_line requests_of complete_lines open_line script_of run_pieces pieces_of acknowledged reply_text opened_line logged key_cmp same_key fresh commits view published begins_spent has_table fits_key longest_body fits_body conflict_of write_refusal is_full variations_of_table all_variations base_rows reply_of state_when_done state_after
returns-clause-commits c = refl

pub returns-clause-rows : goal.returns-clause-rows
unfolding digits encode_with decode_pairs number_of bytes_of body_of line_of command_line requests_of complete_lines open_line script_of run_pieces pieces_of acknowledged reply_text opened_line logged key_cmp same_key fresh commits view published begins_spent has_table fits_key longest_body fits_body conflict_of write_refusal is_full variations_of_table all_variations base_rows reply_of state_when_done state_after
returns-clause-rows c = refl

pub returns-clause-acknowledged : goal.returns-clause-acknowledged
unfolding digits encode_with decode_pairs number_of bytes_of body_of line_of command_line requests_of complete_lines open_line script_of run_pieces pieces_of acknowledged reply_text opened_line logged key_cmp same_key fresh commits view published begins_spent has_table fits_key longest_body fits_body conflict_of write_refusal is_full variations_of_table all_variations base_rows reply_of state_when_done state_after
returns-clause-acknowledged c = refl

pub returns-clause-not_yet : goal.returns-clause-not_yet
unfolding digits encode_with decode_pairs number_of bytes_of body_of line_of command_line requests_of complete_lines open_line script_of run_pieces pieces_of acknowledged reply_text opened_line logged key_cmp same_key fresh commits view published begins_spent has_table fits_key longest_body fits_body conflict_of write_refusal is_full variations_of_table all_variations base_rows reply_of state_when_done state_after
returns-clause-not_yet c = refl
